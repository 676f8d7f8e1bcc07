-- Lines behind others, from what the nodes hold behind the events of these.
use Rattle.std.proofs.Common.{◌≡◌, ℕ, List, [], ◌∷◌, ◌++◌, refl, sym, ap, subst, ◌∙◌, append_assoc, append-nil}
use Rattle.mesh_rules.specs.Events.{Nodes, after_event, after_events, empty_nodes, node_rows}
use Rattle.mesh_rules.specs.Events as mesh
use Rattle.mesh_lines.specs.declared.line.MeshLine.{MeshLine}
use Rattle.mesh_lines.specs.declared.line.MeshLine.TheVariants.{Offer, Meet, Same}
use Rattle.mesh_answers.specs.Rules.{MeshRules, line_area}
use Rattle.mesh_answers.specs.Answers.{LinesAnswered, IsTextOf, node_lines, same_line}
use Rattle.mesh_answers.specs.Laws.{events_in}

pub by_events : (rules : MeshRules) (nodes : ℕ) (s : Nodes) (before ls : List MeshLine) (text : List ℕ) → LinesAnswered rules nodes s (before ++ ls) text
    → (front rest : List ℕ) × (text ≡ front ++ rest) × LinesAnswered rules nodes (after_events rules.mesh s (events_in rules before)) ls rest
by_events rules nodes s [] ls text are = ([], text, refl, are)
by_events rules nodes s (Offer node row ∷ before) ls text are = by_events rules nodes (after_event rules.mesh s (mesh.Offer node (rules.row row))) before ls text are
by_events rules nodes s (Meet left right subspace from ∷ before) ls text are = by_events rules nodes (after_event rules.mesh s (mesh.Meet left right (line_area subspace from))) before ls text are
by_events rules nodes s (Same left right ∷ before) ls text are =
    let b = by_events rules nodes s before ls are.1 are.4 in
    let told = same_line left right are.0 in
    (told ++ b.0, b.1, are.3 ∙ ap (λ (t : List ℕ). told ++ t) b.2 ∙ sym (append_assoc told b.0 b.1), b.3)

pub last_rows : (rules : MeshRules) (nodes : ℕ) (lines : List MeshLine) (text : List ℕ) → IsTextOf rules nodes lines text
    → (front : List ℕ) × (text ≡ front ++ node_lines (node_rows rules.mesh (events_in rules lines)) nodes)
last_rows rules nodes lines text is =
    let b = by_events rules nodes empty_nodes lines [] text (subst (λ (ls : List MeshLine). LinesAnswered rules nodes empty_nodes ls text) (sym (append-nil lines)) is) in
    (b.0, b.2 ∙ ap (λ (t : List ℕ). b.0 ++ t) b.3)
