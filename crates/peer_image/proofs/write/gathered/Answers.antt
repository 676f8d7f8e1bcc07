use Rattle.std.proofs.Common.{◌∙◌, ◌++◌, List, Contains, map, sym, ap, subst}
use Rattle.willow_entry.specs.Entry.{bytes_cmp}
use Rattle.willow_entry.specs.Pruning.{rising}
use Rattle.peer_image.specs.Image.{capability_bytes}
use Rattle.peer_image.proofs.TwoPlaces.{Text, now_of, rising_passed}
use Rattle.peer_image.proofs.write.gathered.Goals as goal

-- the capability of the row before is passed by
pub rows-preserved : goal.rows-preserved
rows-preserved g c =
    let value = g.R.Row.value in
    let told = now_of c.rows.told.items in
    let row = value c.in-Some.row.now in
    let left = map capability_bytes (map value c.next.new.self) in
    let is = c.short_capability-capability.ensures.capability in
    let here = subst (λ (l : List Text). Contains (now_of l) c.short_capability-capability.result.now) c.deref.ensures.value (c.ends_with.ensures c.if-not-ends_with.false) in
    record {
      frames = (rw c.in-Some.ensures.next at c.rows.invariant.frames).1;
      all =
          sym (rising_passed told left (capability_bytes row) (subst (Contains told) is here))
          ∙ sym (ap (λ l. rising bytes_cmp (told ++ map capability_bytes (map value l))) c.in-Some.ensures.next)
          ∙ c.rows.invariant.all;
      short = c.rows.invariant.short;
    }
