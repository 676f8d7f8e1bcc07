use Rattle.std.proofs.Common.{◌≡◌, ◌++◌, ℕ, List, sym, ap, ◌∙◌, subst}
use Rattle.std.specs.Global.{Vec}
use Rattle.std.specs.List.{All}
use Rattle.std.proofs.lemmas.List.Elements.{All-from_recursion}
use Rattle.willow_entry.specs.Row.{RowValue}
use Rattle.peer_listing.specs.Generator.{generator_namespace}
use Rattle.peer_rows.specs.RowLogs.{ArePastLog, HasTaken}
use Rattle.auth_entry.specs.Authorised.{AuthorisedValue}
use Rattle.auth_entry.specs.Rows.{entry_row}
use Rattle.peer_rows.specs.Logged.{authorised_rows, stored_rows}
use Rattle.peer_listing.specs.Ranges.{generated_between}
use Rattle.peer_rows.specs.Drilled.{generated_rows}
use Rattle.peer_rows.proofs.AuthorisedRows.{of_namespace}
use Rattle.peer_rows.proofs.DrilledRows.{generated_on, generated_fit}
use Rattle.peer_rows.proofs.drilled.keep.Goals as goal

pub offer_rows-requires : goal.offer_rows-requires
offer_rows-requires c =
    let rows = authorised_rows generator_namespace (generated_between c.args.from c.args.to) in
    let own : All (λ (row : RowValue). row.entry.namespace ≡ generator_namespace) rows = All-from_recursion (λ (row : RowValue). row.entry.namespace ≡ generator_namespace) rows (of_namespace generator_namespace (generated_between c.args.from c.args.to)) in
    let given : stored_rows c.replace.result.items ≡ rows = ap (λ (v : Vec AuthorisedValue). stored_rows v.items) c.replace.ensures.value ∙ c.requires.entries in
    subst (λ (n : List ℕ). All (λ (row : RowValue). row.entry.namespace ≡ n) (stored_rows c.replace.result.items)) (sym c.requires.namespace)
    (subst (All (λ (row : RowValue). row.entry.namespace ≡ generator_namespace)) (sym given) own)

pub unreachable-requires : goal.unreachable-requires
unreachable-requires c =
    let behind = generated_rows c.args.from in
    let given : stored_rows c.replace.result.items ≡ authorised_rows generator_namespace (generated_between c.args.from c.args.to) = ap (λ (v : Vec AuthorisedValue). stored_rows v.items) c.replace.ensures.value ∙ c.requires.entries in
    let parts : behind ++ stored_rows c.replace.result.items ≡ generated_rows c.args.to = ap (λ (l : List RowValue). behind ++ l) given ∙ sym (generated_on c.args.from c.args.to c.requires.from) in
    let ends = rw c.in-Err-Refused.field-0-is at c.in-Err-Refused.ensures.offers in
    generated_fit c.args.to c.requires.to (subst ArePastLog parts (ends behind c.requires.taken))

pub returns-in-Ok-clause-taken : goal.returns-in-Ok-clause-taken
returns-in-Ok-clause-taken c =
    let behind = generated_rows c.args.from in
    let given : stored_rows c.replace.result.items ≡ authorised_rows generator_namespace (generated_between c.args.from c.args.to) = ap (λ (v : Vec AuthorisedValue). stored_rows v.items) c.replace.ensures.value ∙ c.requires.entries in
    let parts : behind ++ stored_rows c.replace.result.items ≡ generated_rows c.args.to = ap (λ (l : List RowValue). behind ++ l) given ∙ sym (generated_on c.args.from c.args.to c.requires.from) in
    subst (λ (l : List RowValue). HasTaken entry_row l c.offer_rows.new.log) parts (c.in-Ok.ensures.offers behind c.requires.taken)
