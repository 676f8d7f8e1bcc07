-- From where rows stand to why they are refused.
use Rattle.std.proofs.Common.{◌≡◌, ◌<◌, ℕ, zero, suc, List, [], ◌∷◌, ◌++◌, map, length, take, slice_index_or, ◌+◌, All, Option, Some, None, refl, sym, ap, subst, ◌∙◌}
use Rattle.std.specs.Prelude.{slice_get, option_map}
use Rattle.auth_entry.specs.Places.{carried}
use Rattle.std.specs.List.{AllZip, AllByRecursion}
use Rattle.std.specs.Borrow.{Bor}
use Rattle.std.proofs.lemmas.List.Elements.{All-from_recursion}
use Rattle.std.proofs.lemmas.Slice.Zip.{all_zipped_more}
use Rattle.spelling.specs.Answers.{or_else}
use Rattle.scheme_core.specs.Rules.{Rules}
use Rattle.mc_cap.specs.declared.capability.Capability.{Capability}
use Rattle.mc_cap.specs.declared.refusal.RowRefusal.{RowRefusal}
use Rattle.cap_codec.specs.Rows.{RawValue}
use Rattle.auth_entry.specs.Authorised.{claim_refusal, capability_refusal, grant_refusal, signature_refusal, entry_refusal, row_refusal}
use Rattle.auth_entry.specs.Batch.{IsPending, pending_refusal}
use Rattle.auth_entry.specs.Standings.{Stands, IsStood, StandsBy, IsStoodBy, IsSettled}
use Rattle.auth_entry.specs.declared.signatures.Pending.{Pending}
use Rattle.auth_entry.proofs.Lists.{passed}
use Rattle.auth_entry.specs.declared.standing.Stood.{Stood}
use Rattle.auth_entry.specs.declared.standing.Standing.{Standing}
use Rattle.auth_entry.specs.declared.standing.Standing.TheVariants.{Refused, Known, Unknown}

-- each that was there stays at its place
abbrev pub Stay : List Capability → List Capability → Type 0
Stay old new = (at : ℕ) (c : Capability) → slice_get old at ≡ Some c → slice_get new at ≡ Some c

stands_on : (rules : Rules) (n : List ℕ) (old new : List Capability) → Stay old new → (r : RawValue) (s : Standing) → Stands rules n old r s → Stands rules n new r s
stands_on rules n old new stay r (Refused refusal) h = h
stands_on rules n old new stay r Known h = h
stands_on rules n old new stay r (Unknown at) h = (h.0, stay at r.token.capability h.1)

-- rows stand as they did where further capabilities are to be checked
pub stood_on : (rules : Rules) (n : List ℕ) (old new : List Capability) → Stay old new → (rows : List RawValue) (stood : List Stood)
    → AllZip (IsStood rules n old) rows stood → AllZip (IsStood rules n new) rows stood
stood_on rules n old new stay [] [] h = tt
stood_on rules n old new stay [] (s ∷ stood) h = absurd h
stood_on rules n old new stay (r ∷ rows) [] h = absurd h
stood_on rules n old new stay (r ∷ rows) (s ∷ stood) h = ((h.0.0, stands_on rules n old new stay r s.standing h.0.1), stood_on rules n old new stay rows stood h.1)

get_map : {X Y : Type 0} (f : X → Y) (xs : List X) (at : ℕ) (x : X) → slice_get xs at ≡ Some x → slice_get (map f xs) at ≡ Some (f x)
get_map f [] at x h = absurd cc
get_map f (y ∷ xs) zero x h = ap (option_map f) h
get_map f (y ∷ xs) (suc at) x h = get_map f xs at x h

stands_by : (rules : Rules) (n : List ℕ) (unknown : List Capability) (causes : List (Option RowRefusal)) → causes ≡ map (capability_refusal rules) unknown
    → (r : RawValue) (s : Standing) → Stands rules n unknown r s → StandsBy rules n causes r s
stands_by rules n unknown causes are r (Refused refusal) h = h
stands_by rules n unknown causes are r Known h = h
stands_by rules n unknown causes are r (Unknown at) h =
    (h.0, ap (λ (l : List (Option RowRefusal)). slice_get l at) are ∙ get_map (capability_refusal rules) unknown at r.token.capability h.1)

stood_by_each : (rules : Rules) (n : List ℕ) (unknown : List Capability) (causes : List (Option RowRefusal)) → causes ≡ map (capability_refusal rules) unknown
    → (rows : List RawValue) (stood : List Stood) → AllZip (IsStood rules n unknown) rows stood → AllZip (λ r s. (s.row.now ≡ r) × IsStoodBy rules n causes s) rows stood
stood_by_each rules n unknown causes are [] [] h = tt
stood_by_each rules n unknown causes are [] (s ∷ stood) h = absurd h
stood_by_each rules n unknown causes are (r ∷ rows) [] h = absurd h
stood_by_each rules n unknown causes are (r ∷ rows) (s ∷ stood) h = (
  (h.0.0, subst (λ (x : RawValue). StandsBy rules n causes x s.standing) (sym h.0.0) (stands_by rules n unknown causes are r s.standing h.0.1)),
  stood_by_each rules n unknown causes are rows stood h.1,
)

-- the causes being those of the capabilities, each row stands by them
pub all_stood_by : (rules : Rules) (n : List ℕ) (unknown : List Capability) (causes : List (Option RowRefusal)) → causes ≡ map (capability_refusal rules) unknown
    → (rows : List RawValue) (stood : List Stood) → AllZip (IsStood rules n unknown) rows stood → All (IsStoodBy rules n causes) stood
all_stood_by rules n unknown causes are rows stood h = All-from_recursion (IsStoodBy rules n causes) stood (each rows stood (stood_by_each rules n unknown causes are rows stood h))
  where
    each : (rows : List RawValue) (stood : List Stood) → AllZip (λ r s. (s.row.now ≡ r) × IsStoodBy rules n causes s) rows stood → AllByRecursion (IsStoodBy rules n causes) stood
    each [] [] h = tt
    each [] (s ∷ stood) h = absurd h
    each (r ∷ rows) [] h = absurd h
    each (r ∷ rows) (s ∷ stood) h = (h.0.1, each rows stood h.1)

refused_by_parts : (claim cap grant signature : Option RowRefusal) → or_else (or_else claim (or_else cap grant)) signature ≡ or_else claim (or_else cap (or_else grant signature))
refused_by_parts (Some e) cap grant signature = refl
refused_by_parts None (Some e) grant signature = refl
refused_by_parts None None grant signature = refl

-- a row's refusal by what is known of it
pub pending_is : (rules : Rules) (n : List ℕ) (r : RawValue) (p : Pending) → IsPending rules n r p → pending_refusal rules p ≡ row_refusal rules n r
unfolding row_refusal entry_refusal
pending_is rules n r p h =
    ap (λ (x : RawValue). or_else p.cause (signature_refusal rules x)) h.0
    ∙ ap (λ (o : Option RowRefusal). or_else o (signature_refusal rules r)) h.1
    ∙ refused_by_parts (claim_refusal n r) (capability_refusal rules r.token.capability) (grant_refusal r.token.capability r.entry) (signature_refusal rules r)

-- the refusals of all rows
pub all_pending : (rules : Rules) (n : List ℕ) (unknown : List Capability) (rows : List RawValue) (stood : List Stood) (pending : List Pending)
    → AllZip (IsStood rules n unknown) rows stood → AllZip (IsSettled rules n) stood pending → map (pending_refusal rules) pending ≡ map (row_refusal rules n) rows
all_pending rules n unknown [] [] [] h k = refl
all_pending rules n unknown [] (s ∷ stood) pending h k = absurd h
all_pending rules n unknown (r ∷ rows) [] pending h k = absurd h
all_pending rules n unknown [] [] (p ∷ pending) h k = absurd k
all_pending rules n unknown (r ∷ rows) (s ∷ stood) [] h k = absurd k
all_pending rules n unknown (r ∷ rows) (s ∷ stood) (p ∷ pending) h k =
    let here : pending_refusal rules p ≡ row_refusal rules n r = pending_is rules n s.row.now p k.0 ∙ ap (row_refusal rules n) h.0.0 in
    let rest : map (pending_refusal rules) pending ≡ map (row_refusal rules n) rows = all_pending rules n unknown rows stood pending h.1 k.1 in
    ap (λ (x : Option RowRefusal). x ∷ map (pending_refusal rules) pending) here ∙ ap (λ (l : List (Option RowRefusal)). row_refusal rules n r ∷ l) rest

pub settled_more : (rules : Rules) (n : List ℕ) (causes : List (Option RowRefusal)) (stood : List Stood) (k : ℕ) (s : Stood) → k < length stood → s ≡ slice_index_or stood k s
    → (pending : List Pending) (p : Pending) (now : List Pending) → All (IsStoodBy rules n causes) stood → AllZip (IsSettled rules n) (take k stood) pending
    → (IsStoodBy rules n causes s → IsSettled rules n s p) → now ≡ pending ++ p ∷ [] → AllZip (IsSettled rules n) (take (k + 1) stood) now
settled_more rules n causes stood k s lt is pending p now all before settles grown =
    let here : IsStoodBy rules n causes s = subst (IsStoodBy rules n causes) (sym is) (all k s lt) in
    subst (λ (l : List Stood). AllZip (IsSettled rules n) l now) (sym (passed stood k s lt is)) (subst (AllZip (IsSettled rules n) (take k stood ++ s ∷ [])) (sym grown) (all_zipped_more (IsSettled rules n) (take k stood) pending s p before (settles here)))

pub stood_more : (rules : Rules) (n : List ℕ) (old new : List Capability) (rows : List RawValue) (r : RawValue) (stood : List Stood) (s : Stood) (now : List Stood)
    → Stay old new → AllZip (IsStood rules n old) rows stood → Stands rules n new r s.standing → s.row.now ≡ r → now ≡ stood ++ s ∷ [] → AllZip (IsStood rules n new) (rows ++ r ∷ []) now
stood_more rules n old new rows r stood s now stay before stands same grown =
    subst (AllZip (IsStood rules n new) (rows ++ r ∷ [])) (sym grown) (all_zipped_more (IsStood rules n new) rows stood r s (stood_on rules n old new stay rows stood before) (same, stands))

pub carried_causes : (rules : Rules) (rows : List (Bor RawValue)) → map (λ (row : Bor RawValue). capability_refusal rules row.now.token.capability) rows ≡ map (capability_refusal rules) (carried rows)
carried_causes rules [] = refl
carried_causes rules (r ∷ rows) = ap (λ (l : List (Option RowRefusal)). capability_refusal rules r.now.token.capability ∷ l) (carried_causes rules rows)
