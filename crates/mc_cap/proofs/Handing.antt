-- How the message that grows goes with the handovers, and the delegations that were checked with those left.
use Rattle.std.proofs.Common.{◌≡◌, ℕ, suc, ◌+◌, ◌<◌, ◌≤◌, List, ◌∷◌, ◌++◌, length, take, drop, set, get_or, Option, None, Err, sym, ap, ◌∙◌, add-one, arith}
use Rattle.std.specs.List.{flat_map}
use Rattle.std.proofs.lemmas.List.{length-take, drop_all}
use Rattle.std.proofs.Math.Seq.{drop-cons}
use Rattle.spelling.specs.Answers.{Judges, or_else, first_some}
use Rattle.spelling.specs.declared.ending.End.{End}
use Rattle.spelling.specs.declared.ending.End.TheVariants.{Refused, NoMemory}
use Rattle.spelling.proofs.Causes.{first_some-cons, first_some-nil}
use Rattle.scheme_core.specs.Rules.{Rules}
use Rattle.willow_area.specs.AreaSpelling.{area_spelling}
use Rattle.willow_area.specs.declared.area.Area.{Area}
use Rattle.mc_cap.specs.Grant.{cut, receiver_of, granted, user_or, area_or, first_grant}
use Rattle.mc_cap.specs.Forms.{delegation_spelling, head_spelling}
use Rattle.mc_cap.specs.Messages.{handover}
use Rattle.mc_cap.specs.Valid.{step_refusal, handing_refusal}
use Rattle.mc_cap.specs.declared.chain.Delegation.{Delegation}
use Rattle.mc_cap.specs.declared.capability.Capability.{Capability}
use Rattle.mc_cap.specs.declared.check.ChainRefusal.{ChainRefusal}
use Rattle.mc_cap.proofs.Spellings.{head_and_chain}
use Rattle.mc_cap.proofs.Growing.{last_taken, grown}

-- the letter H and the capability with its first k delegations
abbrev pub text_of : Capability → ℕ → List ℕ
text_of c k = (72 ∷ head_spelling c) ++ k ∷ flat_map delegation_spelling (take k c.chain)

pub handover_of : (c : Capability) (k : ℕ) (area : Area) (user : List ℕ) → k ≤ length c.chain → handover (cut c k) area user ≡ text_of c k ++ (area_spelling area ++ user)
unfolding handover head_spelling
handover_of c k area user le =
    let long : length (take k c.chain) ≡ k = omega (arith, length-take k c.chain, le) in
    ap (λ (l : List ℕ). 72 ∷ (l ++ (area_spelling area ++ user))) (head_and_chain (cut c k) ∙ ap (λ (n : ℕ). head_spelling c ++ n ∷ flat_map delegation_spelling (take k c.chain)) long)

pub granted_next : (c : Capability) (k : ℕ) (d : Delegation) → k < length c.chain → granted (cut c (k + 1)) ≡ (get_or c.chain k d).area
granted_next c k d lt = ap (area_or (first_grant c)) (last_taken c.chain k d lt)

pub receiver_next : (c : Capability) (k : ℕ) (d : Delegation) → k < length c.chain → receiver_of (cut c (k + 1)) ≡ (get_or c.chain k d).user
receiver_next c k d lt = ap (user_or c.user) (last_taken c.chain k d lt)

step_is : (rules : Rules) (c : Capability) (k : ℕ) (x : Delegation) (grant : Area) (receiver text : List ℕ) → k ≤ length c.chain
    → grant ≡ granted (cut c k) → receiver ≡ receiver_of (cut c k) → text ≡ text_of c k
    → handing_refusal rules grant receiver (text ++ (area_spelling x.area ++ x.user)) (k + 1) x ≡ step_refusal rules c k x
unfolding step_refusal
step_is rules c k x grant receiver text le eg er et =
    ap (λ (g : Area). handing_refusal rules g receiver (text ++ (area_spelling x.area ++ x.user)) (k + 1) x) eg
    ∙ ap (λ (u : List ℕ). handing_refusal rules (granted (cut c k)) u (text ++ (area_spelling x.area ++ x.user)) (k + 1) x) er
    ∙ ap (λ (m : List ℕ). handing_refusal rules (granted (cut c k)) (receiver_of (cut c k)) m (k + 1) x) (ap (λ (t : List ℕ). t ++ (area_spelling x.area ++ x.user)) et ∙ sym (handover_of c k x.area x.user le))

-- ---- one delegation further

module _ (c : Capability) (items : List Delegation) (k : ℕ) (x : Delegation) (all : items ≡ c.chain) (lt : k < length items) (is : x ≡ get_or items k x) where
  within : k < length c.chain
  within = omega (arith, lt, ap length all)

  it_is : get_or c.chain k x ≡ x
  it_is = ap (λ (l : List Delegation). get_or l k x) (sym all) ∙ sym is

  pub granted_on : x.area ≡ granted (cut c (k + 1))
  granted_on = ap (λ (d : Delegation). d.area) (sym it_is) ∙ sym (granted_next c k x within)

  pub receiver_on : x.user ≡ receiver_of (cut c (k + 1))
  receiver_on = ap (λ (d : Delegation). d.user) (sym it_is) ∙ sym (receiver_next c k x within)

  pub text_on : (place n : ℕ) (old new : List ℕ) → place ≡ length (head_spelling c) + 1 → n ≡ k → old ≡ text_of c k → new ≡ old ++ delegation_spelling x → set new place (n + 1) ≡ text_of c (k + 1)
  text_on place n old new at nk so_far more =
      let at_front : place ≡ length (72 ∷ head_spelling c) = omega (arith, at) in
      ap (λ (l : List ℕ). set l place (n + 1)) (more ∙ ap (λ (l : List ℕ). l ++ delegation_spelling x) so_far ∙ ap (λ (d : Delegation). text_of c k ++ delegation_spelling d) (sym it_is))
      ∙ ap (λ (m : ℕ). set (text_of c k ++ delegation_spelling (get_or c.chain k x)) place (m + 1)) nk
      ∙ grown delegation_spelling (72 ∷ head_spelling c) k (k + 1) place c.chain k x at_front within

  -- the delegations from this one on
  pub rest_is : drop k c.chain ≡ x ∷ drop (k + 1) c.chain
  rest_is = drop-cons c.chain k x within ∙ ap (λ (y : Delegation). y ∷ drop (suc k) c.chain) it_is ∙ ap (λ (m : ℕ). x ∷ drop m c.chain) (sym (add-one k))

  -- what is left to refuse, from this delegation on
  pub left_here : (rules : Rules) (n : ℕ) (grant : Area) (receiver text : List ℕ) (total : Option ChainRefusal) → n ≡ k
      → grant ≡ granted (cut c k) → receiver ≡ receiver_of (cut c k) → text ≡ text_of c k
      → first_some (step_refusal rules c) k (drop k c.chain) ≡ total
      → or_else (handing_refusal rules grant receiver (text ++ (area_spelling x.area ++ x.user)) (n + 1) x) (first_some (step_refusal rules c) (k + 1) (drop (k + 1) c.chain)) ≡ total
  left_here rules n grant receiver text total nk eg er et so_far =
      ap (λ (m : ℕ). or_else (handing_refusal rules grant receiver (text ++ (area_spelling x.area ++ x.user)) (m + 1) x) (first_some (step_refusal rules c) (k + 1) (drop (k + 1) c.chain))) nk
      ∙ ap (λ (o : Option ChainRefusal). or_else o (first_some (step_refusal rules c) (k + 1) (drop (k + 1) c.chain))) (step_is rules c k x grant receiver text (omega (arith, within)) eg er et)
      ∙ sym (first_some-cons (step_refusal rules c) k x (drop (k + 1) c.chain))
      ∙ ap (first_some (step_refusal rules c) k) (sym rest_is)
      ∙ so_far

-- nothing is left to refuse behind the last delegation
pub none_left : (rules : Rules) (c : Capability) (items : List Delegation) (k : ℕ) (total : Option ChainRefusal) → items ≡ c.chain → length items ≤ k
    → first_some (step_refusal rules c) k (drop k c.chain) ≡ total → total ≡ None
none_left rules c items k total all le so_far =
    let past : length c.chain ≤ k = omega (arith, le, ap length all) in
    sym so_far ∙ ap (first_some (step_refusal rules c) k) (drop_all k c.chain past) ∙ first_some-nil (step_refusal rules c) k

-- ---- answers by the first of two causes

pub fails_first : (T : Type 0) {E : Type 0} (e : End E) (cause rest total : Option E) → or_else cause rest ≡ total → Judges {T = T} (Err e) cause → Judges {T = T} (Err e) total
fails_first T {E} (Refused x) cause rest total is h = sym is ∙ ap (λ (o : Option E). or_else o rest) h
fails_first T NoMemory cause rest total is h = tt

pub passes_first : {E : Type 0} (cause rest total : Option E) → or_else cause rest ≡ total → cause ≡ None → rest ≡ total
passes_first {E} cause rest total is none = ap (λ (o : Option E). or_else o rest) (sym none) ∙ is
