use Rattle.std.proofs.Common.{◌≡◌, List, map, Some, sym, subst}
use Rattle.std.specs.Prelude.{slice_get}
use Rattle.mc_cap.specs.Forms.{capability_spelling}
use Rattle.mc_cap.specs.declared.capability.Capability.{Capability}
use Rattle.auth_entry.proofs.Placed.{at_place, mapped_within}
use Rattle.auth_entry.proofs.unknown.Unknown.place_of.Goals as goal

pub known_at-requires : goal.known_at-requires
known_at-requires c =
    let found = c.self.invariant c.capability_bytes.result c.in-Some.place.now (sym c.in-Some.ensures.value) in
    let stands = subst (λ (l : List Capability). slice_get (map capability_spelling l) c.in-Some.place.now ≡ Some c.capability_bytes.result.now) c.self.view_is found in
    mapped_within capability_spelling c.args.self.now c.in-Some.place.now c.capability_bytes.result.now stands

pub returns-in-Some-clause-here : goal.returns-in-Some-clause-here
returns-in-Some-clause-here c =
    let found = c.self.invariant c.capability_bytes.result c.in-Some.place.now (sym c.in-Some.ensures.value) in
    let stands = subst (λ (l : List Capability). slice_get (map capability_spelling l) c.in-Some.place.now ≡ Some c.capability_bytes.result.now) c.self.view_is found in
    at_place c.args.self.now c.in-Some.place.now c.args.row.now.token.capability c.capability_bytes.result.now stands c.capability_bytes.ensures c.known.ensures.token_fits.capability_fits c.known_at.ensures
