use Rattle.std.proofs.Common.{◌≡◌, ◌+◌, ◌-◌, ◌<◌, ◌≤◌, List, [], ◌∷◌, ◌++◌, map, sym, ap, ◌∙◌, arith}
use Rattle.std.specs.List.{range_with_len}
use Rattle.std.specs.Vec.Iter.{into_iter_items}
use Rattle.cap_codec.specs.Rows.{RawValue}
use Rattle.peer_listing.specs.Generator.{generated, generated_entry}
use Rattle.peer_listing.specs.Ranges.{generated_between}
use Rattle.peer_listing.proofs.Ranges.{made_more, some_between, next_is, others_are}
use Rattle.peer_listing.proofs.Signatures.{signatures_long, signature_at}
use Rattle.peer_listing.proofs.writers.Generator.rows_of.Goals as goal

pub bounds-signatures-i : goal.bounds-signatures-i
bounds-signatures-i c =
    let next : into_iter_items c.entries.entry-iterator ≡ c.in-Some.entry ∷ into_iter_items c.next.new.self = c.in-Some.ensures.steps.0 in
    let below = some_between generated_entry c.entries.i c.args.to c.in-Some.entry (into_iter_items c.next.new.self) (sym c.entries.invariant.left ∙ next) in
    signatures_long c.args.from c.args.to c.entries.i c.entries.invariant.up below c.args.signatures.now c.requires.signatures

pub row-requires-clause-entry : goal.row-requires-clause-entry
row-requires-clause-entry c =
    let next : into_iter_items c.entries.entry-iterator ≡ c.in-Some.entry ∷ into_iter_items c.next.new.self = c.in-Some.ensures.steps.0 in
    next_is generated_entry c.entries.i c.args.to c.in-Some.entry (into_iter_items c.next.new.self) (sym c.entries.invariant.left ∙ next)

pub row-requires-clause-signature : goal.row-requires-clause-signature
row-requires-clause-signature c =
    let next : into_iter_items c.entries.entry-iterator ≡ c.in-Some.entry ∷ into_iter_items c.next.new.self = c.in-Some.ensures.steps.0 in
    let below = some_between generated_entry c.entries.i c.args.to c.in-Some.entry (into_iter_items c.next.new.self) (sym c.entries.invariant.left ∙ next) in
    signature_at c.args.from c.args.to c.entries.i c.entries.invariant.up below c.args.signatures.now [] c.requires.signatures

pub entries-preserved : goal.entries-preserved
entries-preserved c =
    let i = c.entries.i in
    let rest = into_iter_items c.next.new.self in
    let next : into_iter_items c.entries.entry-iterator ≡ c.in-Some.entry ∷ rest = c.in-Some.ensures.steps.0 in
    let parts : map generated_entry (range_with_len i (c.args.to - i)) ≡ c.in-Some.entry ∷ rest = sym c.entries.invariant.left ∙ next in
    let below : i < c.args.to = some_between generated_entry i c.args.to c.in-Some.entry rest parts in
    let up : c.args.from ≤ i = c.entries.invariant.up in
    record {
      up = omega (arith, up);
      within = omega (arith, below);
      made =
          c.in_ok-push.ensures.items
          ∙ ap (λ (rows : List RawValue). rows ++ c.in_ok-row.field-0 ∷ []) c.entries.invariant.made
          ∙ ap (λ (row : RawValue). generated_between c.args.from i ++ row ∷ []) c.in_ok-row.ensures
          ∙ sym (made_more generated c.args.from i up);
      left = others_are generated_entry i c.args.to c.in-Some.entry rest parts;
    }
