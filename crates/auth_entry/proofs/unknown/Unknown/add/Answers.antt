use Rattle.std.proofs.Common.{List, Bor, sym, subst, ◌∙◌}
use Rattle.cap_codec.specs.Rows.{RawValue}
use Rattle.auth_entry.specs.Places.{ArePlaces}
use Rattle.auth_entry.proofs.Placed.{places_more, places_stay, stay_more, last_more}
use Rattle.auth_entry.proofs.unknown.Unknown.add.Goals as goal

pub invariant_of-self-in_err-insert : goal.invariant_of-self-in_err-insert
invariant_of-self-in_err-insert c =
    subst (λ (l : List (Bor RawValue)). ArePlaces l c.insert.new.self) (sym c.in_ok-push.ensures.items)
    (places_stay c.self.inside.rows.items c.args.row c.self.inside.places c.insert.new.self c.self.invariant c.in_err-insert.ensures.err)

pub returns-in_err-insert-clause-stay : goal.returns-in_err-insert-clause-stay
returns-in_err-insert-clause-stay c = stay_more c.self.inside.rows.items c.args.row c.args.self.now c.push.new.self.items c.self.view_is c.in_ok-push.ensures.items

pub invariant_of-self-2 : goal.invariant_of-self-2
invariant_of-self-2 c =
    subst (λ (l : List (Bor RawValue)). ArePlaces l c.insert.new.self) (sym c.in_ok-push.ensures.items)
    (places_more c.self.inside.rows.items c.args.row c.self.inside.places c.insert.new.self c.capability_bytes.result c.len-place.result (c.len-place.ensures ∙ c.self.inside.rows.ok.0) c.self.invariant
    c.capability_bytes.ensures c.in_ok-insert.ensures.updates.0)

pub returns-clause-here : goal.returns-clause-here
returns-clause-here c = last_more c.self.inside.rows.items c.args.row c.push.new.self.items c.len-place.result c.in_ok-push.ensures.items (c.len-place.ensures ∙ c.self.inside.rows.ok.0)

pub returns-clause-stay : goal.returns-clause-stay
returns-clause-stay c = stay_more c.self.inside.rows.items c.args.row c.args.self.now c.push.new.self.items c.self.view_is c.in_ok-push.ensures.items
