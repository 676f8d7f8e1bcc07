use Rattle.std.proofs.Common.{◌≡◌, ℕ, ◌++◌, ◌∷◌, [], List, map, ap, sym, ◌∙◌, arith}
use Rattle.std.specs.List.{range_with_len}
use Rattle.std.proofs.lemmas.List.FromFn.{map-range_with_len_more}
use Rattle.mc_cap.specs.Forms.{capability_spelling}
use Rattle.mc_cap.specs.declared.capability.Capability.{Capability}
use Rattle.peer_listing.specs.Generator.{generator_capability, generator_writer}
use Rattle.peer_listing.proofs.Framed.{spelled_on}
use Rattle.peer_listing.proofs.writers.Generator.new.Goals as goal

pub writers-preserved : goal.writers-preserved
writers-preserved c =
    let s = c.writers.s in
    let of_writer = λ (k : ℕ). generator_capability (generator_writer k) in
    let made : c.in_ok-capability.capability ≡ generator_capability (generator_writer s) = c.in_ok-capability.ensures ∙ ap generator_capability c.generator_writer.ensures.key in
    record {
      signed =
          c.in_ok-push-2.ensures.items
          ∙ ap (λ (l : List Capability). l ++ c.in_ok-capability.capability ∷ []) c.writers.invariant.signed
          ∙ ap (λ (l : Capability). map of_writer (range_with_len 0 s) ++ l ∷ []) made
          ∙ sym (map-range_with_len_more of_writer 0 s s (omega arith));
      spelled = spelled_on (λ v. v.items) c.writers.spellings.items c.push.new.self.items c.in_ok-spelling_of.field-0 s c.writers.invariant.spelled c.in_ok-push.ensures.items (c.in_ok-spelling_of.ensures ∙ ap capability_spelling made);
    }
