use Rattle.std.proofs.Common.{Bor, refl, sym, ◌∙◌, rules}
use Rattle.cap_codec.specs.Rows.{RawValue}
use Rattle.auth_entry.specs.Authorised.{capability_refusal}
use Rattle.auth_entry.proofs.Lists.{both_begin, both_turn}
use Rattle.auth_entry.proofs.Settling.{carried_causes}
use Rattle.auth_entry.proofs.checker.remember_valid.Goals as goal

pub loop-row-init : goal.loop-row-init
loop-row-init g c = (
  both_begin (λ (row : Bor RawValue). capability_refusal g.S.Verify.rules row.now.token.capability) c.args.rows.now _ c.args.causes.now _
      (c.requires ∙ sym (carried_causes g.S.Verify.rules c.args.rows.now)) (search rules) (search rules),
  refl,
)

pub remember_if_valid-requires : goal.remember_if_valid-requires
remember_if_valid-requires g c =
    (both_turn (λ (row : Bor RawValue). capability_refusal g.S.Verify.rules row.now.token.capability) c.loop-row.row-iterator.a.rest.now c.next.new.self.a.rest.now
    c.loop-row.row-iterator.b.rest.now c.next.new.self.b.rest.now c.in-Some.row.now c.in-Some.cause.now c.loop-row.invariant.0 c.in-Some.ensures.steps.0 c.in-Some.ensures.steps.1).0

pub loop-row-preserved : goal.loop-row-preserved
loop-row-preserved g c = (
  (both_turn (λ (row : Bor RawValue). capability_refusal g.S.Verify.rules row.now.token.capability) c.loop-row.row-iterator.a.rest.now c.next.new.self.a.rest.now
      c.loop-row.row-iterator.b.rest.now c.next.new.self.b.rest.now c.in-Some.row.now c.in-Some.cause.now c.loop-row.invariant.0 c.in-Some.ensures.steps.0 c.in-Some.ensures.steps.1).1,
  c.remember_if_valid.ensures ∙ c.loop-row.invariant.1,
)
