use Rattle.std.proofs.Common.{◌≡◌, ◌∙◌, ℕ, List, [], ◌++◌, append_assoc}
use Rattle.peer_listing.proofs.summary.summary_of.Goals as goal

-- six pieces, one behind the other
joined : (t0 t1 t2 t3 t4 t5 t6 a b c d e f : List ℕ) → t0 ≡ [] → t1 ≡ t0 ++ a → t2 ≡ t1 ++ b → t3 ≡ t2 ++ c → t4 ≡ t3 ++ d → t5 ≡ t4 ++ e → t6 ≡ t5 ++ f
    → t6 ≡ a ++ (b ++ (c ++ (d ++ (e ++ f))))
joined t0 t1 t2 t3 t4 t5 t6 a b c d e f h0 h1 h2 h3 h4 h5 h6 =
    let whole : t6 ≡ ((((([] ++ a) ++ b) ++ c) ++ d) ++ e) ++ f = cc in
    whole ∙ simp append_assoc

pub returns : goal.returns
returns c =
    joined _ _ _ _ _ _ _ _ _ _ _ _ _ c.new-text.ensures.items c.in_ok-put_number.ensures c.in_ok-put_number-2.ensures c.in_ok-put_number-3.ensures c.in_ok-put_number-4.ensures c.in_ok-put_number-5.ensures
    c.in_ok-put_exchange.ensures
