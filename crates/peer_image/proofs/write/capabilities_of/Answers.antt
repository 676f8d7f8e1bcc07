use Rattle.std.proofs.Common.{◌≡◌, ◌≤◌, List, ℕ, length, sym, subst, ◌∙◌}
use Rattle.std.specs.List.{AllByRecursion}
use Rattle.std.proofs.lemmas.List.Filters.{dedup_is}
use Rattle.willow_entry.specs.Entry.{bytes_cmp}
use Rattle.willow_entry.specs.Pruning.{rising}
use Rattle.willow_entry.specs.declared.frame.TheConstants.{MAX_FRAME}
use Rattle.peer_image.proofs.TwoPlaces.{all_rising, now_of, same_text, told_is, told_up}
use Rattle.peer_image.proofs.write.capabilities_of.Goals as goal

pub returns-clause-told : goal.returns-clause-told
returns-clause-told g c =
    let gathered = c.in_ok-told.told.items in
    let sorted = c.sort_unstable.new.self.items in
    let told = c.dedup.new.self.items in
    told_is gathered sorted told c.sort_unstable.ensures.permutation c.sort_unstable.ensures.sorted (dedup_is same_text sorted told c.dedup.ensures.filtered) ∙ c.in_ok-told.ensures.all

pub returns-clause-up : goal.returns-clause-up
returns-clause-up g c =
    let sorted = c.sort_unstable.new.self.items in
    told_up c.in_ok-told.told.items sorted c.dedup.new.self.items c.sort_unstable.ensures.permutation c.sort_unstable.ensures.sorted (dedup_is same_text sorted c.dedup.new.self.items c.dedup.ensures.filtered)

pub returns-clause-short : goal.returns-clause-short
returns-clause-short g c =
    let gathered = c.in_ok-told.told.items in
    let sorted = c.sort_unstable.new.self.items in
    let told = c.dedup.new.self.items in
    let is : now_of told ≡ rising bytes_cmp (now_of gathered) = told_is gathered sorted told c.sort_unstable.ensures.permutation c.sort_unstable.ensures.sorted (dedup_is same_text sorted told c.dedup.ensures.filtered) in
    let P : List ℕ → Type 0 = λ t. length t ≤ MAX_FRAME in
    subst (AllByRecursion P) (sym is) (all_rising bytes_cmp P (now_of gathered) c.in_ok-told.ensures.short)
