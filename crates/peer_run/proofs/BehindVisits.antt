-- What is done behind all visits of a server, put together: passes that may have seen more, and links that were fed.
use Rattle.std.proofs.Common.{◌≡◌, ◌⊎◌, inl, inr, ℕ, zero, suc, Bool, ◌+◌, ◌<◌, ◌≤◌, List, ◌∷◌, ◌++◌, length, map, get_or, Contains, refl, sym, ap, ◌∙◌, subst, arith, length-append}
use Rattle.std.specs.Prelude.{Ok, Err}
use Rattle.std.specs.List.{All}
use Rattle.std.proofs.lemmas.List.{get_or-map, get_or_append_left, length-map}
use Rattle.std.proofs.lemmas.List.Elements.{All-append, All-cons, All-map}
use mathlib.Core.List.{IsPrefix}
use Rattle.log_rule.proofs.Prefixes.{prefix_length, prefix_trans}
use Rattle.willow_outside.specs.Facts.{LinkFacts, DoorFacts}
use Rattle.link_host.specs.Begun.{AreGivenBack}
use Rattle.willow_entry.specs.declared.row.LogRow.{LogRow}
use Rattle.auth_entry.specs.Authorised.{AuthorisedValue}
use Rattle.ns_cell.specs.Closed.{IsClosed}
use Rattle.ns_cell.specs.Passes.{CellValue, PassValue, IsPassOf}
use Rattle.sync_link.specs.Run.{Answer}
use Rattle.peer_run.specs.Accepting.{HasOnlyRead}
use Rattle.peer_run.specs.Behind.{AreBehind, HasSeenOwn, HaveOnlyRead}
use Rattle.peer_run.specs.Feeding.{AreFed, FeedsAll, HasSeenOpening}
use Rattle.peer_run.specs.MetPasses.{HasMetAll}
use Rattle.peer_run.specs.declared.behind.Behind.{Behind}
use Rattle.peer_run.specs.declared.hall.Guest.{Guest}
use Rattle.peer_run.specs.declared.hall.Parting.{Parting}
use Rattle.peer_run.specs.declared.tails.Tail.{Tail}
use Rattle.peer_run.proofs.FedClosed.{fed_by_closed}
use Rattle.peer_run.proofs.Guests.{Passes, handed_on, passes_of}
use Rattle.peer_run.proofs.ReadPasses.{read_twice, holds_on}

-- ---- all passes

pub met_read : (own met : PassValue AuthorisedValue) (olds news : Passes) → HasMetAll own met olds news → HaveOnlyRead olds news
met_read own met olds news have =
    record { as_many = have.as_many; each = λ at old new within. let one = have.each at old new within in record { later = one.later; own = one.same_own } }

-- all of them are of the cell
pub of_cell : (cell : CellValue) (own own_now : PassValue AuthorisedValue) (partings : List Parting) (unused : List Guest) (others : Passes) → HasOnlyRead own own_now → HaveOnlyRead (handed_on partings ++ passes_of unused) others
    → IsPassOf cell own → All (λ (p : Parting). IsPassOf cell p.pass) partings → All (λ (g : Guest). IsPassOf cell g.pass) unused → All (IsPassOf cell) (own_now ∷ others)
of_cell cell own own_now partings unused others own_read read first each rest =
    let parted = All-map (IsPassOf cell) (λ (p : Parting). p.pass) partings each in
    let left = All-map (IsPassOf cell) (λ (g : Guest). g.pass) unused rest in
    All-cons (IsPassOf cell) own_now others (own_read.later.cell ∙ first)
    (holds_on (IsPassOf cell) (handed_on partings ++ passes_of unused) others read (λ old new more is. more.later.cell ∙ is) (All-append (IsPassOf cell) (handed_on partings) (passes_of unused) parted left))

-- and as many as there were
pub as_many_passes : (partings : List Parting) (unused : List Guest) (others : Passes) → HaveOnlyRead (handed_on partings ++ passes_of unused) others → length others ≡ length partings + length unused
as_many_passes partings unused others read =
    omega (arith, read.as_many, length-append (handed_on partings) (passes_of unused), length-map partings (λ (p : Parting). p.pass), length-map unused (λ (g : Guest). g.pass))

-- the numbers of links are those of their facts
pub as_many_of : {A B : Type 0} (f : A → B) (xs : List A) (n : ℕ) → length (map f xs) ≡ n → length xs ≡ n
as_many_of f xs n is = sym (length-map xs f) ∙ is

pub few_of : {A B : Type 0} (f : A → B) (xs : List A) (n : ℕ) → length (map f xs) ≤ n → length xs ≤ n
few_of f xs n few = omega (arith, few, length-map xs f)

-- ---- what sessions began with

seen_by : (pass met : PassValue AuthorisedValue) (end : Answer) → IsPrefix pass.seen met.seen → HasSeenOpening pass end → HasSeenOpening met end
seen_by pass met (Ok report) front seen = omega (arith, seen, prefix_length pass.seen met.seen front)
seen_by pass met (Err end) front seen = tt

-- the pass that met all has seen the log with which each session began
pub all_seen : (own met : PassValue AuthorisedValue) (partings : List Parting) (rest news : Passes) → HasMetAll own met (handed_on partings ++ rest) news → All HasSeenOwn partings → All (HasSeenOpening met) (map (λ (p : Parting). p.end) partings)
all_seen own met partings rest news have seen = All-map (HasSeenOpening met) (λ (p : Parting). p.end) partings each where
  each : All (λ (p : Parting). HasSeenOpening met p.end) partings
  each k d within =
      let parting = get_or partings k d in
      let long : length (handed_on partings) ≡ length partings = length-map partings (λ (p : Parting). p.pass) in
      let at : get_or (handed_on partings ++ rest) k d.pass ≡ parting.pass = get_or_append_left (handed_on partings) rest d.pass k (omega (arith, within, long)) ∙ get_or-map (λ (p : Parting). p.pass) partings k d d.pass within in
      let one = have.each k d.pass d.pass (omega (arith, within, long, length-append (handed_on partings) rest)) in
      let further : IsPrefix parting.pass.seen met.seen =
      subst (λ (p : PassValue AuthorisedValue). IsPrefix p.seen met.seen) at (prefix_trans (get_or (handed_on partings ++ rest) k d.pass).seen (get_or news k d.pass).seen met.seen one.later.seen one.seen) in
      seen_by parting.pass met parting.end further (seen k d within)

-- ---- feeds of the log of a closed cell

first_or : {A : Type 0} (x : A) (xs : List A) (y : A) → Contains (x ∷ xs) y → (y ≡ x) ⊎ Contains xs y
first_or x xs y at = by at.0 at.1 at.2 where
  by : (k : ℕ) → k < length (x ∷ xs) → get_or (x ∷ xs) k y ≡ y → (y ≡ x) ⊎ Contains xs y
  by zero within is = inl (sym is)
  by (suc k) within is = inr (k, omega (arith, within), is)

module _ (feeds : Bool) (own met own_now : PassValue AuthorisedValue) (partings : List Parting) (unused : List Guest) (news : Passes) (links links' : List LinkFacts) (ends : List Answer) (tails : List Tail) (old new : DoorFacts) (x : Behind) where
  -- the passes met, the links were fed and given back
  pub behind_so : HasMetAll own met (handed_on partings ++ passes_of unused) news → FeedsAll feeds 1 met own_now ends links links' tails → AreGivenBack links' old new → ends ≡ map (λ (p : Parting). p.end) partings
      → x.passes.items ≡ own_now ∷ news → x.ends.items ≡ ends → x.tails.items ≡ tails → AreBehind feeds own partings unused links old new x
  behind_so have all back ends_are passes_are same_ends same_tails =
      record {
        own_now = own_now;
        others = news;
        passes = passes_are;
        own_read = read_twice own met own_now (record { later = have.later; own = have.own }) (record { later = all.later; own = all.own });
        others_read = met_read own met (handed_on partings ++ passes_of unused) news have;
        ends = same_ends ∙ ends_are;
        links_now = links';
        given_back = back;
        as_many = (all.as_many.0, ap length same_tails ∙ all.as_many.1);
        fed = λ log closed.
            let by : IsClosed (own_now ∷ news) log = subst (λ (ps : Passes). IsClosed ps log) passes_are closed in
            let fed = fed_by_closed feeds 1 own met own_now (handed_on partings ++ passes_of unused) news (own_now ∷ news) ends links links' tails log have all by (0, omega arith, refl) (first_or own_now news) in
            subst (λ (es : List Answer). AreFed feeds log 1 es links links' x.tails.items) (sym same_ends) (subst (λ (ts : List Tail). AreFed feeds log 1 ends links links' ts) (sym same_tails) fed);
      }

-- whatever the log is with which all passes are closed, what the own one had seen is a front of it
pub seen_behind : (feeds : Bool) (own : PassValue AuthorisedValue) (partings : List Parting) (unused : List Guest) (links : List LinkFacts) (old new : DoorFacts) (x : Behind) → AreBehind feeds own partings unused links old new x
    → (log : List (LogRow AuthorisedValue)) → IsClosed x.passes.items log → IsPrefix own.seen log
seen_behind feeds own partings unused links old new x are log closed =
    let all : IsClosed (are.own_now ∷ are.others) log = subst (λ (l : Passes). IsClosed l log) are.passes closed in
    prefix_trans own.seen are.own_now.seen log are.own_read.later.seen (all.prefixes 0 are.own_now (omega arith))
