-- How the generated rows of a drill go on by some rows.
use Rattle.std.proofs.Common.{◌≡◌, ◌≤◌, ℕ, suc, ◌+◌, ◌-◌, ◌*◌, cond, not, List, [], ◌∷◌, ◌++◌, length, map, filter, Option, Some, None, is_some, Result, Ok, Err, refl, sym, subst, ap, ◌∙◌, append_assoc, arith}
use Rattle.std.specs.Prelude.{IfOk, IfSome, slice_get}
use Rattle.std.specs.Global.{Vec}
use Rattle.std.specs.List.{range_with_len}
use Rattle.std.proofs.lemmas.List.{append-nil, map-append}
use Rattle.std.proofs.lemmas.List.FromFn.{length-map-range_with_len}
use Rattle.spelling.specs.declared.ending.NoMemory.{NoMemory}
use Rattle.lms_core.specs.Use.{peer_rules}
use Rattle.willow_entry.specs.Pruning.{new_after}
use Rattle.willow_entry.specs.Row.{RowValue, is_covering}
use Rattle.cap_codec.specs.Rows.{RawValue, row_of}
use Rattle.auth_entry.specs.Authorised.{AuthorisedValue, is_authorised, row_refusal, verdict, verdict_by}
use Rattle.mc_cap.specs.declared.refusal.RowRefusal.{RowRefusal}
use Rattle.peer_listing.specs.Generator.{generated, generator_namespace}
use Rattle.peer_listing.specs.declared.generator.TheConstants.{GENERATED_ROWS}
use Rattle.peer_listing.proofs.Ranges.{ranges_join}
use Rattle.ns_state.specs.Log.{StateValue, values}
use Rattle.peer_rows.specs.RowLogs.{HasTaken, ArePastLog}
use Rattle.auth_entry.specs.Rows.{entry_row}
use Rattle.peer_rows.specs.Logged.{authorised_rows, stored_rows}
use Rattle.peer_listing.specs.Ranges.{generated_between}
use Rattle.peer_rows.specs.Drilled.{AreRowShares, generated_rows}
use Rattle.peer_rows.specs.declared.shares.TheConstants.{SHARE}
use Rattle.peer_rows.proofs.AuthorisedRows.{authorised_few, authorised_parts}
use Rattle.peer_rows.proofs.NewRows.{new_after-fewer}

-- ---- the entries among verdicts

pub entries_of : List (Result AuthorisedValue RowRefusal) → List AuthorisedValue
entries_of [] = []
entries_of (Ok entry ∷ verdicts) = entry ∷ entries_of verdicts
entries_of (Err refusal ∷ verdicts) = entries_of verdicts

-- those of the verdicts on rows are the authorised ones
entries_authorised : (n : List ℕ) (rows : List RawValue) → stored_rows (entries_of (map (verdict peer_rules n) rows)) ≡ authorised_rows n rows
unfolding entries_of is_authorised
entries_authorised n [] = refl
entries_authorised n (r ∷ rows) = split (row_refusal peer_rules n r) (entries_authorised n rows) where
  split : (o : Option RowRefusal) → stored_rows (entries_of (map (verdict peer_rules n) rows)) ≡ authorised_rows n rows
      → stored_rows (entries_of (verdict_by (record { namespace = n; row = r }) o ∷ map (verdict peer_rules n) rows))
      ≡ map row_of (cond (not (is_some o)) (r ∷ filter (is_authorised peer_rules n) rows) (filter (is_authorised peer_rules n) rows))
  split None more = ap (λ l. row_of r ∷ l) more
  split (Some refusal) more = more

-- the entry of the next verdict is kept, if it has one: with those of the verdicts that are left they are those of all
module _ (all : List AuthorisedValue) (verdicts rest : List (Result AuthorisedValue RowRefusal)) (judged : Result AuthorisedValue RowRefusal) (kept : List AuthorisedValue) (so_far : kept ++ entries_of verdicts ≡ all) (next : verdicts ≡ judged ∷ rest) where
  pub entry_kept : (entry : AuthorisedValue) → judged ≡ Ok entry → (kept ++ entry ∷ []) ++ entries_of rest ≡ all
  unfolding entries_of
  entry_kept entry is =
      append_assoc kept (entry ∷ []) (entries_of rest)
      ∙ ap (λ (v : Result AuthorisedValue RowRefusal). kept ++ entries_of (v ∷ rest)) (sym is)
      ∙ ap (λ (l : List (Result AuthorisedValue RowRefusal)). kept ++ entries_of l) (sym next)
      ∙ so_far

  pub none_kept : (refusal : RowRefusal) → judged ≡ Err refusal → kept ++ entries_of rest ≡ all
  unfolding entries_of
  none_kept refusal is =
      ap (λ (v : Result AuthorisedValue RowRefusal). kept ++ entries_of (v ∷ rest)) (sym is)
      ∙ ap (λ (l : List (Result AuthorisedValue RowRefusal)). kept ++ entries_of l) (sym next)
      ∙ so_far

-- where none are left, the authorised ones were kept behind those before them
pub all_kept : (n : List ℕ) (rows : List RawValue) (all verdicts : List (Result AuthorisedValue RowRefusal)) (before kept : List AuthorisedValue) → kept ++ entries_of verdicts ≡ before ++ entries_of all → verdicts ≡ [] → all ≡ map (verdict peer_rules n) rows
    → stored_rows kept ≡ stored_rows before ++ authorised_rows n rows
unfolding entries_of
all_kept n rows all verdicts before kept so_far none is =
    let whole : kept ≡ before ++ entries_of all = sym (append-nil kept) ∙ ap (λ (l : List (Result AuthorisedValue RowRefusal)). kept ++ entries_of l) (sym none) ∙ so_far in
    let parts : stored_rows (before ++ entries_of all) ≡ stored_rows before ++ stored_rows (entries_of all) = map-append entry_row before (entries_of all) in
    ap stored_rows whole ∙ parts ∙ ap (λ (l : List RowValue). stored_rows before ++ l) (ap (λ (l : List (Result AuthorisedValue RowRefusal)). stored_rows (entries_of l)) is ∙ entries_authorised n rows)

-- ---- the generated rows

generated_join : (from to : ℕ) → from ≤ to → map generated (range_with_len 0 to) ≡ map generated (range_with_len 0 from) ++ generated_between from to
generated_join from to up =
    let parts : to ≡ from + (to - from) = omega arith in
    let at : 0 + from ≡ from = omega arith in
    ap (λ n. map generated (range_with_len 0 n)) parts
    ∙ ap (map generated) (ranges_join 0 from (to - from))
    ∙ map-append generated (range_with_len 0 from) (range_with_len (0 + from) (to - from))
    ∙ ap (λ n. map generated (range_with_len 0 from) ++ map generated (range_with_len n (to - from))) at

-- the authorised ones before a row are those before one in front of it, and those between
pub generated_on : (from to : ℕ) → from ≤ to → generated_rows to ≡ generated_rows from ++ authorised_rows generator_namespace (generated_between from to)
unfolding generated_rows
generated_on from to up = ap (authorised_rows generator_namespace) (generated_join from to up) ∙ authorised_parts generator_namespace (map generated (range_with_len 0 from)) (generated_between from to)

-- so are those from one row to before another, in two parts
between_join : (from mid to : ℕ) → from ≤ mid → mid ≤ to → authorised_rows generator_namespace (generated_between from to) ≡ authorised_rows generator_namespace (generated_between from mid) ++ authorised_rows generator_namespace (generated_between mid to)
between_join from mid to up more =
    let count : to - from ≡ (mid - from) + (to - mid) = omega arith in
    let at : from + (mid - from) ≡ mid = omega arith in
    ap (authorised_rows generator_namespace)
    (ap (λ (n : ℕ). map generated (range_with_len from n)) count
    ∙ ap (map generated) (ranges_join from (mid - from) (to - mid))
    ∙ map-append generated (range_with_len from (mid - from)) (range_with_len (from + (mid - from)) (to - mid))
    ∙ ap (λ (n : ℕ). generated_between from mid ++ map generated (range_with_len n (to - mid))) at)
    ∙ authorised_parts generator_namespace (generated_between from mid) (generated_between mid to)

-- ---- shares of rows, judged one behind the other

-- the authorised ones of the rows from one on stand behind others, and these shares are left
pub record AreJudged (from to : ℕ) (before now : List RowValue) (shares : List (Result (Vec RawValue) NoMemory)) : Type 0 where
  pub at : ℕ
  pub up : from ≤ at
  pub left : at + length shares * SHARE ≡ to
  pub are : AreRowShares at shares
  pub judged : now ≡ before ++ authorised_rows generator_namespace (generated_between from at)

-- at first none is judged
pub none_judged : (from to : ℕ) (before : List RowValue) (shares : List (Result (Vec RawValue) NoMemory)) → AreRowShares from shares → from + length shares * SHARE ≡ to → AreJudged from to before before shares
none_judged from to before shares are whole =
    let count : from - from ≡ 0 = omega arith in
    record {
      at = from;
      up = omega arith;
      left = whole;
      are = are;
      judged = sym (append-nil before) ∙ ap (λ (n : ℕ). before ++ authorised_rows generator_namespace (map generated (range_with_len from n))) (sym count);
    }

-- the next share is judged
pub share_judged : (from to : ℕ) (before now next : List RowValue) (shares rest : List (Result (Vec RawValue) NoMemory)) (rows : Vec RawValue)
    → AreJudged from to before now shares → shares ≡ Ok rows ∷ rest → next ≡ now ++ authorised_rows generator_namespace rows.items → AreJudged from to before next rest
share_judged from to before now next shares rest rows judged is grown =
    let at = judged.at in
    let at' = judged.at + SHARE in
    let are : AreRowShares at (Ok rows ∷ rest) = subst (AreRowShares at) is judged.are in
    let first : rows.items ≡ generated_between (at + 0 * SHARE) (at + (0 * SHARE + SHARE)) = are 0 (omega arith) in
    let begin : at + 0 * SHARE ≡ at = omega arith in
    let end : at + (0 * SHARE + SHARE) ≡ at' = omega arith in
    let these : rows.items ≡ generated_between at at' = first ∙ ap (λ (n : ℕ). generated_between n (at + (0 * SHARE + SHARE))) begin ∙ ap (generated_between at) end in
    record {
      at = at';
      up = omega (arith, judged.up);
      left = omega (arith, judged.left, ap length is);
      are = λ k below.
          let from_k : at + suc k * SHARE ≡ at' + k * SHARE = omega arith in
          let to_k : at + (suc k * SHARE + SHARE) ≡ at' + (k * SHARE + SHARE) = omega arith in
          subst (λ (n : ℕ). IfSome (slice_get rest k) (λ (share : Result (Vec RawValue) NoMemory). IfOk share (λ (v : Vec RawValue). v.items ≡ generated_between (at' + k * SHARE) n))) to_k
          (subst (λ (n : ℕ). IfSome (slice_get rest k) (λ (share : Result (Vec RawValue) NoMemory). IfOk share (λ (v : Vec RawValue). v.items ≡ generated_between n (at + (suc k * SHARE + SHARE))))) from_k
          (are (suc k) (omega (arith, below))));
      judged =
          grown
          ∙ ap (λ (l : List RowValue). l ++ authorised_rows generator_namespace rows.items) judged.judged
          ∙ append_assoc before (authorised_rows generator_namespace (generated_between from at)) (authorised_rows generator_namespace rows.items)
          ∙ ap (λ (l : List RawValue). before ++ (authorised_rows generator_namespace (generated_between from at) ++ authorised_rows generator_namespace l)) these
          ∙ ap (λ (l : List RowValue). before ++ l) (sym (between_join from at at' judged.up (omega arith)));
    }

-- where none is left, all are judged
pub all_judged : (from to : ℕ) (before now : List RowValue) (shares : List (Result (Vec RawValue) NoMemory)) → AreJudged from to before now shares → shares ≡ [] → now ≡ before ++ authorised_rows generator_namespace (generated_between from to)
all_judged from to before now shares judged none =
    let end : judged.at ≡ to = omega (arith, judged.left, ap length none) in
    judged.judged ∙ ap (λ (n : ℕ). before ++ authorised_rows generator_namespace (generated_between from n)) end

-- a log has room for all
pub generated_fit : (n : ℕ) → n ≤ GENERATED_ROWS → ArePastLog (generated_rows n) → ⊥
unfolding generated_rows
generated_fit n few past =
    omega (arith, few, past, new_after-fewer is_covering [] (generated_rows n), authorised_few generator_namespace (map generated (range_with_len 0 n)), length-map-range_with_len generated 0 n)

-- nothing was offered yet
pub drilled_none : (log : StateValue AuthorisedValue) → log.log ≡ [] → HasTaken entry_row (generated_rows 0) log
unfolding generated_rows new_after
drilled_none log is = ap (values entry_row) is
