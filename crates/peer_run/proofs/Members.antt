-- What holds of all rows of two stores holds of the rows that they exchange, and of what they then hold.
use Rattle.std.proofs.Common.{◌≡◌, ℕ, List, ◌++◌, Option, Some, None, subst}
use Rattle.std.specs.List.{All, AllByRecursion, Contains}
use Rattle.std.proofs.lemmas.List.Elements.{All-from_recursion}
use Rattle.spelling.proofs.Lists.{All-append}
use Rattle.willow_area.specs.Boxes.{Ranges}
use Rattle.willow_entry.specs.Row.{RowValue, is_dominating, place_cmp, live}
use Rattle.willow_entry.proofs.Members.{Member, member_from_contains, contains_from_member, filter_member}
use Rattle.willow_entry.proofs.Pruning.{pruned_member}
use Rattle.willow_entry.proofs.Rising.{all_member, all_from_members}
use Rattle.willow_entry.proofs.RowLaws.{rows_prune}
use Rattle.block_store.specs.BoxKinds.{IsOfOneNamespace}
use Rattle.block_store.specs.InBox.{is_in, rows_in}
use Rattle.area_interest.specs.declared.interest.Interest.{Interest}
use Rattle.exchange_rules.specs.Items.{to_left, to_right}
use Rattle.exchange_rules.specs.Exchange.{exchange}
use Rattle.exchange_rules.proofs.Converging.{left_only, right_only}
use Rattle.sync_hello.specs.declared.version.TheConstants.{HIGHEST_VERSION}
use Rattle.sync_core.specs.SyncRules.{sync_rules}
use Rattle.sync_core.proofs.Lawful.{deciding, disjoint}
use Rattle.peer_run.specs.Exchanged.{met}
use Rattle.peer_run.specs.Offered.{offer}
use Rattle.peer_run.proofs.Offers.{offer_all}

-- a list holds each of its rows
pub all_held : (rows : List RowValue) → AllByRecursion (Member rows) rows
all_held rows = all_from_members place_cmp (Member rows) rows (λ r m. m)

module _ (P : RowValue → Type 0) where
  pub live_all : (rows : List RowValue) → AllByRecursion P rows → AllByRecursion P (live rows)
  live_all rows all = all_from_members place_cmp P (live rows) (λ r m. all_member place_cmp P rows all r (pruned_member is_dominating place_cmp rows_prune rows r m).0)

  -- rows that a list holds in a box
  in_box : (area : Ranges) (rows sent : List RowValue) → AllByRecursion P rows → ((r : RowValue) → Contains sent r → Contains (rows_in area rows) r) → AllByRecursion P sent
  in_box area rows sent all holds =
      all_from_members place_cmp P sent (λ r m. all_member place_cmp P rows all r (filter_member (is_in area) rows r (member_from_contains (rows_in area rows) r (holds r (contains_from_member sent r m)))).0)

  pub sent_left : (a b : List RowValue) (area : Option Ranges) → AllByRecursion P b → AllByRecursion P (to_left (exchange (sync_rules HIGHEST_VERSION) a b area))
  sent_left a b None all = tt
  sent_left a b (Some area) all = in_box area b (to_left (exchange (sync_rules HIGHEST_VERSION) a b (Some area))) all (left_only (sync_rules HIGHEST_VERSION) (deciding HIGHEST_VERSION) (disjoint HIGHEST_VERSION) a b area)

  pub sent_right : (a b : List RowValue) (area : Option Ranges) → AllByRecursion P a → AllByRecursion P (to_right (exchange (sync_rules HIGHEST_VERSION) a b area))
  sent_right a b None all = tt
  sent_right a b (Some area) all = in_box area a (to_right (exchange (sync_rules HIGHEST_VERSION) a b (Some area))) all (right_only (sync_rules HIGHEST_VERSION) (deciding HIGHEST_VERSION) (disjoint HIGHEST_VERSION) a b area)

  -- of the rows that two stores took, and those that came
  pub all_left : (a b : List RowValue) (area : Option Ranges) (limits : Interest) → AllByRecursion P a → AllByRecursion P b → AllByRecursion P (a ++ to_left (met a b area limits))
  all_left a b area limits one other =
      All-append P a (to_left (met a b area limits)) one (sent_left (offer limits area (live a)) (offer limits area (live b)) area (offer_all limits area (live b) P (live_all b other)))

  pub all_right : (a b : List RowValue) (area : Option Ranges) (limits : Interest) → AllByRecursion P a → AllByRecursion P b → AllByRecursion P (b ++ to_right (met a b area limits))
  all_right a b area limits one other =
      All-append P b (to_right (met a b area limits)) other (sent_right (offer limits area (live a)) (offer limits area (live b)) area (offer_all limits area (live a) P (live_all a one)))

-- what is live of rows of a namespace is of it
pub log_own : (n : List ℕ) (rows : List RowValue) → All (λ (r : RowValue). r.entry.namespace ≡ n) rows → AllByRecursion (λ r. r.entry.namespace ≡ n) (live rows)
log_own n rows all = all_from_members place_cmp (λ r. r.entry.namespace ≡ n) (live rows) (λ r m.
    let at = contains_from_member rows r (pruned_member is_dominating place_cmp rows_prune rows r m).0 in
    subst (λ (s : RowValue). s.entry.namespace ≡ n) at.2 (all at.0 r at.1))

pub one_namespace : (n : List ℕ) (rows : List RowValue) → AllByRecursion (λ r. r.entry.namespace ≡ n) rows → IsOfOneNamespace rows
one_namespace n rows all = (n, All-from_recursion (λ r. r.entry.namespace ≡ n) rows all)
