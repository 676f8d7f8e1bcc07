-- A run of a meeting with status 0 or 1 is a whole meeting.
use Rattle.std.proofs.Common.{◌≡◌, ℕ, List, map, Option, Some, None, refl, sym, ap, ap₂, ◌∙◌, subst, arith}
use Rattle.std.specs.Prelude.{Result, Ok, Err, IsNone, IsSome}
use Rattle.std.specs.Option.{option_map}
use Rattle.std.specs.String.{string_bytes}
use Rattle.std.proofs.lemmas.List.Elements.{All-from_recursion}
use Rattle.willow_outside.specs.Facts.{Names, SinkFacts}
use Rattle.willow_outside.specs.Names.{name_put}
use Rattle.willow_area.specs.declared.area.Area.{Area}
use Rattle.willow_entry.specs.Row.{RowValue, join}
use Rattle.area_interest.specs.declared.interest.Interest.{Interest}
use Rattle.cap_codec.specs.Rows.{RawValue}
use Rattle.mc_cap.specs.declared.refusal.RefusedRow.{RefusedRow}
use Rattle.mc_cap.specs.declared.refusal.RowRefusal.{RowRefusal}
use Rattle.exchange_rules.specs.Items.{to_left, to_right}
use Rattle.sync_hello.specs.declared.version.TheConstants.{HIGHEST_VERSION}
use Rattle.sync_core.specs.Flat.{TurnValue}
use Rattle.sync_pair.specs.Meeting.{meeting, turn_bytes}
use Rattle.sync_pair.specs.Stores.{AreStores, IsStoreOf}
use Rattle.sync_pair.proofs.Alone.{say_alone}
use Rattle.peer_image.specs.Image.{image}
use Rattle.peer_image.specs.ImageReading.{raw_rows}
use Rattle.peer_image.specs.Order.{order_refusal}
use Rattle.peer_rows.specs.Logged.{authorised_rows}
use Rattle.peer_stage.specs.Stages.{IsWritten}
use Rattle.peer_stage.specs.Status.{status_of, first_status}
use Rattle.peer_stage.specs.World.{World}
use Rattle.peer_stage.specs.declared.outcome.Done.{Done}
use Rattle.peer_stage.specs.declared.outcome.Done.TheVariants as done
use Rattle.peer_stage.specs.declared.outcome.Stop.{Stop}
use Rattle.peer_stage.specs.declared.outcome.Stop.TheVariants as stop
use Rattle.peer_stage.proofs.Ends.{first_only}
use Rattle.peer_report.specs.Report.{report_of}
use Rattle.peer_words.specs.Alike.{AreAlike}
use Rattle.peer_words.specs.Commands.{IsWords}
use Rattle.peer_words.specs.declared.command.AreaWords.{AreaWords}
use Rattle.peer_words.specs.declared.command.Command.{Command}
use Rattle.peer_words.specs.declared.command.Command.TheVariants as cmd
use Rattle.peer_words.proofs.OneCommand.{at_most_one}
use Rattle.peer_run.specs.Deeds.{deed_of}
use Rattle.peer_run.specs.ImagesMet.{IsMeeting, AreMetCounts, image_turns}
use Rattle.peer_run.specs.Meet.{Gathers, Meets, Puts, agreed_area, meeting_refusal}
use Rattle.peer_run.proofs.Offers.{offer_stores}
use Rattle.peer_run.specs.MeetHeadline.{IsWholeMeeting, HaveMet, Stores, left_offer, right_offer, stores_of, turns_of}
use Rattle.peer_run.specs.Offered.{offer}
use Rattle.peer_run.specs.PairDeeds.{Given, AreGiven, HasImage, HoldsCapability}
use Rattle.peer_run.specs.Promises.{HasEnded, IsEnd}
use Rattle.peer_run.specs.Run.{Run, before_report}
use Rattle.peer_run.specs.Transcript.{transcript}
use Rattle.peer_run.specs.declared.images_met.Met.{Met}
use Rattle.peer_run.specs.declared.meeting.MeetWords.{MeetWords}
use Rattle.peer_run.specs.declared.meeting.Sides.{Sides}
use Rattle.peer_run.proofs.BothPass.{agreed}
use Rattle.peer_rows.proofs.AuthorisedRows.{authorised_live, of_namespace}
use Rattle.peer_run.proofs.Gathered.{WereGot, gathered}
use Rattle.peer_run.proofs.Meetings.{left_converges, right_converges, meet_alike}
use Rattle.peer_run.proofs.NeverStops.{Never, then_never, no_image, no_capability}

-- ---- one meeting

-- the same texts, and the same area
pub record AreSameWords (words other : MeetWords) : Type 0 where
  pub left : string_bytes words.left ≡ string_bytes other.left
  pub right : string_bytes words.right ≡ string_bytes other.right
  pub left_cap : string_bytes words.left_cap ≡ string_bytes other.left_cap
  pub right_cap : string_bytes words.right_cap ≡ string_bytes other.right_cap
  pub left_out : string_bytes words.left_out ≡ string_bytes other.left_out
  pub right_out : string_bytes words.right_out ≡ string_bytes other.right_out
  pub area : words.area ≡ other.area
  pub limits : words.limits ≡ other.limits

abbrev command : MeetWords → Command
command words = cmd.Meet words.left words.right words.left_cap words.right_cap words.left_out words.right_out words.area words.limits.newest words.limits.bytes

-- words that are a meeting are no other command, and no meeting with other words
pub record IsSameMeeting (words : MeetWords) (c : Command) : Type 0 where
  pub other : MeetWords
  pub is : c ≡ command other
  pub same : AreSameWords words other

pub same_limits : (one other : Interest) → one.newest ≡ other.newest → one.bytes ≡ other.bytes → one ≡ other
same_limits one other newest bytes = ap₂ limits_of newest bytes where
  limits_of : Option ℕ → Option ℕ → Interest
  limits_of k m = record { newest = k; bytes = m }

alike_is : (words : MeetWords) (c : Command) → AreAlike (command words) c → IsSameMeeting words c
alike_is words (cmd.Meet a b c d e f g n o) same =
    record {
      other = record { left = a; right = b; left_cap = c; right_cap = d; left_out = e; right_out = f; area = g; limits = record { newest = n; bytes = o } };
      is = refl;
      same = record { left = same.0; right = same.1; left_cap = same.2; right_cap = same.3; left_out = same.4; right_out = same.5; area = same.6; limits = same_limits words.limits (record { newest = n; bytes = o }) same.7 same.8 };
    }
alike_is words c same = absurd same

-- ---- what a meeting that came to its end did

-- what was got, that nothing was against it, what came of it, and that this was put and written
pub record HasCome (words : MeetWords) (old new : World) (d : Done) : Type 0 where
  pub sides : Sides
  pub got : WereGot words old.shelf.names sides
  pub none_against : meeting_refusal words.area sides.left.namespace sides.right.namespace sides.left_cap sides.right_cap ≡ None
  pub met : Met
  pub is_meeting : IsMeeting sides.left.namespace sides.left.rows.items sides.right.rows.items (agreed_area words.area sides.left_cap sides.right_cap) words.limits met
  pub put : new.shelf.names ≡ option_map (name_put (string_bytes words.right_out) met.right.items) (option_map (name_put (string_bytes words.left_out) met.left.items) old.shelf.names)
  pub written : IsWritten old.output new.output met.transcript.items
  pub done_is : d ≡ done.Met met.counts

has_come : (words : MeetWords) (old new : World) (d : Done) → Meets words old new (Ok d) → HasCome words old new d
has_come words old new d p =
    let s = p.value in
    let all = gathered words old p.between s p.given in
    let q = p.rest in
    let r = q.rest in
    let t = r.rest in
    let u = t.rest in
    let names : r.between.shelf.names ≡ old.shelf.names = ap (λ (w : World). w.shelf.names) (r.given.1 ∙ q.given.1) ∙ all.leaves.names in
    let output : u.between.output ≡ old.output = ap (λ (w : World). w.output) u.given.others ∙ ap (λ (w : World). w.output) t.given.others ∙ ap (λ (w : World). w.output) (r.given.1 ∙ q.given.1) ∙ all.leaves.output in
    record {
      sides = s;
      got = all.got;
      none_against = q.given.0.0;
      met = r.value;
      is_meeting = subst (λ (area : Option Area). IsMeeting s.left.namespace s.left.rows.items s.right.rows.items area words.limits r.value) q.given.0.1 r.given.0;
      put =
          ap (λ (w : World). w.shelf.names) u.rest.others
          ∙ u.given.does
          ∙ ap (λ (told : Option Names). option_map (name_put (string_bytes words.right_out) r.value.right.items) told) (t.given.does ∙ ap (λ (told : Option Names). option_map (name_put (string_bytes words.left_out) r.value.left.items) told) names);
      written = subst (λ (o : SinkFacts). IsWritten o new.output r.value.transcript.items) output u.rest.does.0;
      done_is = u.rest.does.1;
    }

-- the same, told with other texts of the same bytes
as_told : (words other : MeetWords) (old new : World) (d : Done) → AreSameWords words other → HasCome other old new d → HasCome words old new d
as_told words other old new d same c =
    let s = c.sides in
    record {
      sides = s;
      got = record {
        left = subst (λ (name : List ℕ). HasImage old.shelf.names name s.left.namespace s.left.rows.items) (sym same.left) c.got.left;
        right = subst (λ (name : List ℕ). HasImage old.shelf.names name s.right.namespace s.right.rows.items) (sym same.right) c.got.right;
        left_cap = subst (λ (name : List ℕ). HoldsCapability old.shelf.names name s.left_cap) (sym same.left_cap) c.got.left_cap;
        right_cap = subst (λ (name : List ℕ). HoldsCapability old.shelf.names name s.right_cap) (sym same.right_cap) c.got.right_cap;
      };
      none_against = subst (λ (area : AreaWords). meeting_refusal area s.left.namespace s.right.namespace s.left_cap s.right_cap ≡ None) (sym same.area) c.none_against;
      met = c.met;
      is_meeting =
          subst (λ (limits : Interest). IsMeeting s.left.namespace s.left.rows.items s.right.rows.items (agreed_area words.area s.left_cap s.right_cap) limits c.met) (sym same.limits)
          (subst (λ (area : AreaWords). IsMeeting s.left.namespace s.left.rows.items s.right.rows.items (agreed_area area s.left_cap s.right_cap) other.limits c.met) (sym same.area) c.is_meeting);
      put =
          c.put
          ∙ ap₂ (λ (left right : List ℕ). option_map (name_put right c.met.right.items) (option_map (name_put left c.met.left.items) old.shelf.names)) (sym same.left_out) (sym same.right_out);
      written = c.written;
      done_is = c.done_is;
    }

-- ---- as the headline tells it

pub none_first : (first : Option RefusedRow) → first_status first ≡ 0 → IsNone first
none_first None e = refl
none_first (Some first) e = absurd (omega (arith, e))

pub some_first : (first : Option RefusedRow) → first_status first ≡ 1 → IsSome first
some_first None e = absurd (omega (arith, e))
some_first (Some first) e = refl

module _ (words : MeetWords) (run : Run) (d : Done) (c : HasCome words run.old (before_report run) d) where
  abbrev n : List ℕ
  n = c.sides.left.namespace

  abbrev given : Given
  given = record { namespace = n; left = c.sides.left.rows.items; right = c.sides.right.rows.items; left_cap = c.sides.left_cap; right_cap = c.sides.right_cap }

  abbrev stores : Stores
  stores = stores_of words given

  are_given : AreGiven words run.old.shelf.names given
  are_given =
      let all = agreed words.area n c.sides.right.namespace c.sides.left_cap c.sides.right_cap c.none_against in
      record {
        left = c.got.left;
        right = subst (λ (m : List ℕ). HasImage run.old.shelf.names (string_bytes words.right) m given.right) all.one_namespace c.got.right;
        left_cap = c.got.left_cap;
        right_cap = c.got.right_cap;
        left_passes = all.left;
        right_passes = all.right;
      }

  store_of : (rows : List RawValue) → order_refusal (raw_rows rows) ≡ None → IsStoreOf n (authorised_rows n rows)
  store_of rows in_order =
      record { live = authorised_live n rows in_order; own = All-from_recursion (λ (r : RowValue). r.entry.namespace ≡ n) (authorised_rows n rows) (of_namespace n rows) }

  are_stores : AreStores n stores.left stores.right
  are_stores = record { left = store_of given.left c.got.left.is_image.in_order; right = store_of given.right c.got.right.is_image.in_order }

  turns_are : image_turns n given.left given.right (agreed_area words.area given.left_cap given.right_cap) words.limits ≡ turns_of stores
  turns_are = ap₂ (λ (a b : List RowValue). meeting HIGHEST_VERSION (offer stores.limits stores.area a) (offer stores.limits stores.area b) stores.area) are_stores.left.live are_stores.right.live

  -- the names with these images put
  abbrev names_with : List ℕ → List ℕ → Option Names
  names_with left right = option_map (name_put (string_bytes words.right_out) right) (option_map (name_put (string_bytes words.left_out) left) run.old.shelf.names)

  have_met : HaveMet words run n stores
  have_met =
      let left = c.is_meeting.left_image ∙ ap (λ (ts : List TurnValue). image n (join stores.left (to_left ts))) turns_are in
      let right = c.is_meeting.right_image ∙ ap (λ (ts : List TurnValue). image n (join stores.right (to_right ts))) turns_are in
      let put = c.put ∙ ap₂ names_with left right in
      let told = c.is_meeting.told ∙ ap (λ (ts : List TurnValue). transcript (map (turn_bytes HIGHEST_VERSION) ts)) turns_are in
      record {
        joined = put;
        converged = λ tell. put ∙ ap₂ (λ (a b : List RowValue). names_with (image n a) (image n b)) (left_converges n stores are_stores tell) (right_converges n stores are_stores tell);
        written = subst (λ (text : List ℕ). IsWritten run.old.output run.new.output text) told c.written;
        alike = meet_alike stores;
        alone = say_alone HIGHEST_VERSION n (left_offer stores) (right_offer stores) stores.area (offer_stores n stores.limits stores.area stores.left stores.right are_stores);
      }

  whole : IsWritten run.old.report run.new.report (report_of (Ok d)) → run.status ≡ status_of (Ok d) → IsWholeMeeting words run
  whole reported status_is =
      let counts = c.met.counts in
      let status : run.status ≡ first_status counts.first = status_is ∙ ap (λ (e : Done). status_of (Ok e)) c.done_is ∙ first_only counts.first in
      record {
        given = given;
        are_given = are_given;
        met = have_met;
        counts = counts;
        counted = subst (λ (ts : List TurnValue). AreMetCounts n given.left given.right ts counts) turns_are c.is_meeting.numbers;
        reported = subst (λ (e : Done). IsWritten run.old.report run.new.report (report_of (Ok e))) c.done_is reported;
        all_authorised = λ zero_is. none_first counts.first (sym status ∙ zero_is);
        some_refused = λ one_is. some_first counts.first (sym status ∙ one_is);
      }

-- ---- the end of a meeting

-- what a meeting makes is never refused
module _ (words : MeetWords) (refusal : RowRefusal) where
  abbrev refused : Stop
  refused = stop.Refused refusal

  none_gathered : Never (Gathers words.left words.right words.left_cap words.right_cap) refused
  none_gathered =
      then_never _ _ refused (no_image refusal words.left) (λ a.
      then_never _ _ refused (no_image refusal words.right) (λ b.
      then_never _ _ refused (no_capability refusal words.left_cap) (λ c.
      then_never _ _ refused (no_capability refusal words.right_cap) (λ d. record { never = λ old new s. s.0 }))))

  none_put : (met : Met) → Never (Puts words.left_out words.right_out met) refused
  none_put met =
      then_never _ _ refused (record { never = λ old new s. s.does }) (λ left.
      then_never _ _ refused (record { never = λ old new s. s.does }) (λ right. record { never = λ old new s. s.does }))

  never_refused : Never (Meets words) refused
  never_refused =
      then_never _ _ refused none_gathered (λ s.
      then_never _ _ refused (record { never = λ old new h. h.0 }) (λ area.
      then_never _ _ refused (record { never = λ old new h. h.0 }) (λ met. none_put met)))

pub whole_meeting : (run : Run) (words : MeetWords) → HasEnded run → IsWords run.words (command words) → IsWholeMeeting words run
whole_meeting run words ended is_meet = go ended.end meets ended.is_end ended.reported ended.status_is where
  found : IsSameMeeting words ended.command
  found = alike_is words ended.command (at_most_one run.words (command words) ended.command is_meet ended.is_words)

  meets : Meets found.other run.old (before_report run) ended.end
  meets = subst (λ (c : Command). (deed_of c).meets run.old (before_report run) ended.end) found.is ended.meets

  go : (end : Result Done Stop) → Meets found.other run.old (before_report run) end → IsEnd end → IsWritten run.old.report run.new.report (report_of end) → run.status ≡ status_of end → IsWholeMeeting words run
  go (Ok d) came is_end reported status_is = whole words run d (as_told words found.other run.old (before_report run) d found.same (has_come found.other run.old (before_report run) d came)) reported status_is
  go (Err (stop.Refused refusal)) came is_end reported status_is = absurd ((never_refused found.other refusal).never run.old (before_report run) came)
  go (Err e) came is_end reported status_is = absurd is_end
