-- What is live of a log's opening rows and of what its file holds.
use Rattle.std.proofs.Common.{◌≡◌, ◌⊎◌, inl, inr, ⊎_elim, ◌+◌, List, ◌++◌, length, take, Contains, refl, sym, ap, ◌∙◌, append_assoc, length-append}
use Rattle.std.proofs.lemmas.List.{take_at}
use Rattle.std.proofs.lemmas.List.Elements.{Contains-append_left, Contains-append_right, Contains-append_cases}
use Rattle.willow_entry.specs.Row.{RowValue, HasCovering, live}
use Rattle.willow_entry.proofs.Live.{live_alike}

-- a row of the list is covered by it
covers_own : (rows : List RowValue) (r : RowValue) → Contains rows r → HasCovering rows r
covers_own rows r there = (r, there, inl refl)

covers_front : (xs ys : List RowValue) (r : RowValue) → HasCovering xs r → HasCovering (xs ++ ys) r
covers_front xs ys r (s, there, covers) = (s, Contains-append_left xs ys s there, covers)

-- Where the opening rows cover what the file held, that can be left out.
live_without : (opening old kept : List RowValue) → ((r : RowValue) → Contains old r → HasCovering opening r) → live (opening ++ (old ++ kept)) ≡ live (opening ++ kept)
live_without opening old kept covers = live_alike (opening ++ (old ++ kept)) (opening ++ kept) from to
  where
    from : (r : RowValue) → Contains (opening ++ kept) r → HasCovering (opening ++ (old ++ kept)) r
    from r there = ⊎_elim (λ here. covers_own (opening ++ (old ++ kept)) r (Contains-append_left opening (old ++ kept) r here)) (λ here. covers_own (opening ++ (old ++ kept)) r (Contains-append_right opening (old ++ kept) r (Contains-append_right old kept r here))) (Contains-append_cases opening kept r there)

    later : (r : RowValue) → Contains old r ⊎ Contains kept r → HasCovering (opening ++ kept) r
    later r (inl here) = covers_front opening kept r (covers r here)
    later r (inr here) = covers_own (opening ++ kept) r (Contains-append_right opening kept r here)

    to : (r : RowValue) → Contains (opening ++ (old ++ kept)) r → HasCovering (opening ++ kept) r
    to r there = ⊎_elim (λ here. covers_own (opening ++ kept) r (Contains-append_left opening kept r here)) (λ here. later r (Contains-append_cases old kept r here)) (Contains-append_cases opening (old ++ kept) r there)

-- the store at a front of the log
pub live_front : (opening old kept rest : List RowValue) → ((r : RowValue) → Contains old r → HasCovering opening r) → live (opening ++ (old ++ kept)) ≡ live (take (length opening + length kept) (opening ++ (kept ++ rest)))
live_front opening old kept rest covers =
    let front : take (length opening + length kept) (opening ++ (kept ++ rest)) ≡ opening ++ kept =
    ap (take (length opening + length kept)) (sym (append_assoc opening kept rest)) ∙ take_at (opening ++ kept) rest (length opening + length kept) (length-append opening kept) in
    live_without opening old kept covers ∙ ap live (sym front)
