-- Lines answered one after the other.
use Rattle.std.proofs.Common.{◌≡◌, ◌≢◌, ◌↔◌, ℕ, zero, suc, ◌+◌, ◌<◌, Bool, IsTrue, List, [], ◌∷◌, ◌++◌, length, drop, get_or, refl, sym, ap, subst, ◌∙◌, arith, append_assoc, append-nil}
use Rattle.std.specs.Prelude.{All, IfOk, Option, Result, Ok, Err}
use Rattle.std.specs.List.{flat_map, range_with_len}
use Rattle.std.proofs.lemmas.List.{flat_map_more}
use Rattle.mesh_rules.specs.Events as mesh
use Rattle.mesh_rules.specs.Events.{Nodes, after_event, empty_nodes}
use Rattle.mesh_lines.specs.Named.{NamesAmong}
use Rattle.mesh_lines.specs.declared.line.MeshLine.{MeshLine}
use Rattle.mesh_lines.specs.declared.line.MeshLine.TheVariants.{Offer, Meet, Same}
use Rattle.mesh_answers.specs.Rules.{MeshRules, line_area}
use Rattle.mesh_answers.specs.Answers.{LinesAnswered, IsLineAnswered, IsTextOf, node_line, node_lines, same_line}

module _ (rules : MeshRules) where
  -- ---- one line

  -- an event is answered by nothing
  pub happened : (s s' : Nodes) (l : MeshLine) (out : List ℕ) → ((nodes : ℕ) (ls : List MeshLine) (rest : List ℕ) → LinesAnswered rules nodes s' ls rest → LinesAnswered rules nodes s (l ∷ ls) rest) → IsLineAnswered rules s s' l out out
  happened s s' l out goes = record { piece = []; written = sym (append-nil out); goes_on = goes }

  pub offered : (s s' : Nodes) (node row : ℕ) (out : List ℕ) → s' ≡ after_event rules.mesh s (mesh.Offer node (rules.row row)) → IsLineAnswered rules s s' (Offer node row) out out
  offered s s' node row out same = happened s s' (Offer node row) out (λ nodes ls rest are. subst (λ (t : Nodes). LinesAnswered rules nodes t ls rest) same are)

  pub met : (s s' : Nodes) (left right : ℕ) (subspace : Option (List ℕ)) (from : ℕ) (out : List ℕ) → s' ≡ after_event rules.mesh s (mesh.Meet left right (line_area subspace from)) → IsLineAnswered rules s s' (Meet left right subspace from) out out
  met s s' left right subspace from out same = happened s s' (Meet left right subspace from) out (λ nodes ls rest are. subst (λ (t : Nodes). LinesAnswered rules nodes t ls rest) same are)

  -- a question by its line
  pub told : (s : Nodes) (left right : ℕ) (same : Bool) (out now : List ℕ) → (IsTrue same ↔ (s left ≡ s right)) → now ≡ out ++ same_line left right same → IsLineAnswered rules s s (Same left right) out now
  told s left right same out now is written = record { piece = same_line left right same; written = written; goes_on = λ nodes ls rest are. (same, rest, is, refl, are) }

  -- so the answers of calls
  pub offered_so : {M E : Type 0} (rows : M → Nodes) (s : Nodes) (node row : ℕ) (out : List ℕ) (r : Result M E) → IfOk r (λ made. rows made ≡ after_event rules.mesh s (mesh.Offer node (rules.row row)))
      → IfOk r (λ made. IsLineAnswered rules s (rows made) (Offer node row) out out)
  offered_so rows s node row out (Ok made) same = offered s (rows made) node row out same
  offered_so rows s node row out (Err e) same = tt

  pub met_so : {M E : Type 0} (rows : M → Nodes) (s : Nodes) (left right : ℕ) (subspace : Option (List ℕ)) (from : ℕ) (out : List ℕ) (r : Result M E)
      → IfOk r (λ made. rows made ≡ after_event rules.mesh s (mesh.Meet left right (line_area subspace from))) → IfOk r (λ made. IsLineAnswered rules s (rows made) (Meet left right subspace from) out out)
  met_so rows s left right subspace from out (Ok made) same = met s (rows made) left right subspace from out same
  met_so rows s left right subspace from out (Err e) same = tt

  -- ---- all lines

  -- what is written so far goes before whatever is written for the lines to come
  pub record HasCome (nodes : ℕ) (lines : List MeshLine) (s : Nodes) (left : List MeshLine) (out : List ℕ) : Type 0 where
    pub goes_on : (rest : List ℕ) → LinesAnswered rules nodes s left rest → LinesAnswered rules nodes empty_nodes lines (out ++ rest)

  pub at_first : (nodes : ℕ) (lines left : List MeshLine) (s : Nodes) (out : List ℕ) → left ≡ lines → s ≡ empty_nodes → out ≡ [] → HasCome nodes lines s left out
  at_first nodes lines left s out same none empty = record {
    goes_on = λ rest are.
        subst (λ (text : List ℕ). LinesAnswered rules nodes empty_nodes lines (text ++ rest)) (sym empty)
        (subst (λ (t : Nodes). LinesAnswered rules nodes t lines rest) none (subst (λ (ls : List MeshLine). LinesAnswered rules nodes s ls rest) same are));
  }

  pub one_more : (nodes : ℕ) (lines : List MeshLine) (s s' : Nodes) (left others : List MeshLine) (l : MeshLine) (out now : List ℕ)
      → HasCome nodes lines s left out → left ≡ l ∷ others → IsLineAnswered rules s s' l out now → HasCome nodes lines s' others now
  one_more nodes lines s s' left others l out now come front answer = record {
    goes_on = λ rest are.
        let before = come.goes_on (answer.piece ++ rest) (subst (λ (ls : List MeshLine). LinesAnswered rules nodes s ls (answer.piece ++ rest)) (sym front) (answer.goes_on nodes others rest are)) in
        let text : out ++ (answer.piece ++ rest) ≡ now ++ rest = sym (append_assoc out answer.piece rest) ∙ ap (λ (t : List ℕ). t ++ rest) (sym answer.written) in
        subst (λ (t : List ℕ). LinesAnswered rules nodes empty_nodes lines t) text before;
  }

  pub at_last : (nodes : ℕ) (lines : List MeshLine) (s : Nodes) (left : List MeshLine) (out now : List ℕ) → HasCome nodes lines s left out → left ≡ [] → now ≡ out ++ node_lines s nodes → IsTextOf rules nodes lines now
  at_last nodes lines s left out now come none written =
      subst (λ (t : List ℕ). LinesAnswered rules nodes empty_nodes lines t) (sym written)
      (come.goes_on (node_lines s nodes) (subst (λ (ls : List MeshLine). LinesAnswered rules nodes s ls (node_lines s nodes)) (sym none) refl))

-- ---- the last lines

range_more : (a n : ℕ) → range_with_len a (n + 1) ≡ range_with_len a n ++ (a + n) ∷ []
range_more a zero = let same : a ≡ a + 0 = omega arith in ap (λ (k : ℕ). k ∷ []) same
range_more a (suc n) =
    let count : suc n + 1 ≡ suc (n + 1) = omega arith in
    let last : (a + 1) + n ≡ a + suc n = omega arith in
    ap (range_with_len a) count ∙ ap (λ (ks : List ℕ). a ∷ ks) (range_more (a + 1) n ∙ ap (λ (k : ℕ). range_with_len (a + 1) n ++ k ∷ []) last)

pub one_node_more : (s : Nodes) (node : ℕ) (out now last : List ℕ) → now ≡ out ++ node_lines s node → last ≡ now ++ node_line node (length (s node)) → last ≡ out ++ node_lines s (node + 1)
one_node_more s node out now last is more =
    more ∙ ap (λ (t : List ℕ). t ++ node_line node (length (s node))) is
    ∙ flat_map_more (λ i. node_line i (length (s i))) out (range_with_len 0 node) node
    ∙ ap (λ (ks : List ℕ). out ++ flat_map (λ i. node_line i (length (s i))) ks) (sym (range_more 0 node ∙ ap (λ (k : ℕ). range_with_len 0 node ++ k ∷ []) (omega arith)))

-- the line at a place names nodes and rows that are there
pub named_at : (n m : ℕ) (lines xs : List MeshLine) (k : ℕ) (l : MeshLine) → All (NamesAmong n) lines → k < length xs → xs ≡ lines → l ≡ get_or xs k l → m ≡ n → NamesAmong m l
named_at n m lines xs k l all within same is count =
    let each : NamesAmong n (get_or xs k l) = (subst (λ (ls : List MeshLine). All (NamesAmong n) ls) (sym same) all) k l within in
    subst (λ (c : ℕ). NamesAmong c l) (sym count) (subst (λ (line : MeshLine). NamesAmong n line) (sym is) each)
