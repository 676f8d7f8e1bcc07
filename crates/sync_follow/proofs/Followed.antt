-- What a caller has behind its session and the feed that it follows.
use Rattle.std.proofs.Common.{◌≡◌, ◌⊎◌, inl, inr, ℕ, ◌-◌, ◌≤◌, Bool, true, false, not, ◌&&◌, cond, eqb, List, [], ◌∷◌, ◌++◌, map, filter, length, take, drop, get_or, All, Contains, Option, Some, None, is_some, refl, sym, ap, ◌∙◌, subst, arith, length-append}
use Rattle.std.proofs.lemmas.Bool.{eqb-true, eq-eqb}
use Rattle.std.proofs.lemmas.List.{append_cancel_left, length-map, map-append, take_all}
use Rattle.std.proofs.lemmas.List.Elements.{All-contains, Contains-get_or, filter-append}
use Rattle.std.proofs.lemmas.List.Sums.{length-filter, count_by-le-length}
use mathlib.Core.List.{IsPrefix}
use Rattle.scheme_core.specs.Rules.{Rules}
use Rattle.willow_outside.specs.Told.{Extends}
use Rattle.willow_area.specs.declared.area.Area.{Area}
use Rattle.willow_entry.specs.LogRow.{LogValue, log_value}
use Rattle.willow_entry.specs.Row.{RowValue, Dominates, HasCovering, IsUndominatedBy, live}
use Rattle.willow_entry.specs.declared.row.LogRow.{LogRow}
use Rattle.willow_entry.proofs.Live.{live_covers}
use Rattle.willow_entry.proofs.Members.{Member, contains_from_member, member_from_contains, member_append_left, member_append_cases, member_filter, filter_member}
use Rattle.willow_entry.proofs.RowLaws.{IsLive-live, dominates_decides, rows_prune}
use Rattle.mc_cap.specs.declared.refusal.RowRefusal.{RowRefusal}
use Rattle.willow_entry.specs.Frame.{HasFrame}
use Rattle.cap_codec.specs.Rows.{RawValue, IsRaw, IsRawRow, row_of}
use Rattle.auth_entry.specs.Authorised.{AuthorisedValue, authorised, is_authorised, row_refusal}
use Rattle.auth_entry.specs.Rows.{entry_row, authorised_rows}
use Rattle.auth_entry.proofs.Lengths.{fits_frame}
use Rattle.log_rule.proofs.Prefixes.{drop-prefix, prefix_trans}
use Rattle.log_rule.specs.Views.{rows_of_pass}
use Rattle.ns_state.specs.Log.{logged}
use Rattle.ns_state.specs.declared.live_log.TheConstants.{LOG_LIMIT}
use Rattle.session_rules.specs.Reading.{Move}
use Rattle.sync_msg.specs.declared.refusal.CoreRefusal.{CoreRefusal}
use Rattle.row_intake.proofs.CoveredRows.{covering_more, rows_behind}
use Rattle.sync_follow.specs.Feeds.{is_fed, fed_of, fed, has_entry, feed_spelling}
use Rattle.sync_follow.specs.FeedLaws.{AreFit}
use Rattle.sync_follow.specs.Following.{rows_fed}
use Rattle.sync_follow.specs.Followed.{IsAuthorisedRow, Scene, rows_to_feed, IsFollowed, FollowingCovers}
use Rattle.sync_follow.specs.Grammar.{FeedMessage}
use Rattle.sync_follow.specs.Tallies.{log_rows}
use Rattle.sync_follow.proofs.Feeds.{feed_read}
use Rattle.sync_follow.proofs.FedRows.{has_frame}
use Rattle.sync_follow.proofs.Meetings.{member_map, map_member, one_raw, refusal_none, gave, brought, own_brought, brought_covered}

-- ---- coverings

dominates_trans : (r s t : RowValue) → Dominates r s → Dominates s t → Dominates r t
dominates_trans r s t a b = (dominates_decides r t).0 (rows_prune.transitive r s t ((dominates_decides r s).1 a) ((dominates_decides s t).1 b))

covers_through : (r s t : RowValue) → (r ≡ s) ⊎ Dominates r s → (s ≡ t) ⊎ Dominates s t → (r ≡ t) ⊎ Dominates r t
covers_through r s t (inl e) (inl f) = inl (e ∙ f)
covers_through r s t (inl e) (inr d) = inr (subst (λ x. Dominates x t) (sym e) d)
covers_through r s t (inr d) (inl f) = inr (subst (Dominates r) f d)
covers_through r s t (inr d) (inr e) = inr (dominates_trans r s t d e)

live_covering : (rows : List RowValue) (row : RowValue) → HasCovering rows row → HasCovering (live rows) row
live_covering rows row h =
    let k = live_covers rows h.0 h.1 in
    (k.0, k.1, covers_through k.0 h.0 row k.2 h.2)

-- a later log covers what an earlier one did
covering_later : (log log' : List (LogRow AuthorisedValue)) → IsPrefix log log' → (row : RowValue) → HasCovering (log_rows log) row → HasCovering (log_rows log') row
covering_later log log' later row h = subst (λ l. HasCovering l row) (sym (rows_behind entry_row log log' later)) (covering_more (log_rows log) (log_rows later.0) row h)

-- ---- the rows of the server's log

-- what is live of a log is live of a front of it, or stands behind it
module _ (opening log : List (LogRow AuthorisedValue)) (longer : IsPrefix opening log) (row : RowValue) (is : Contains (live (log_rows log)) row) where
  all_rows : log_rows log ≡ log_rows opening ++ log_rows longer.0
  all_rows = rows_behind entry_row opening log longer

  undominated : IsUndominatedBy (log_rows opening) row
  undominated r c d =
      let k = ((IsLive-live (log_rows log)).members row).0 is in
      k.1 r (contains_from_member (log_rows log) r (subst (λ l. Member l r) (sym all_rows) (member_append_left (log_rows opening) (log_rows longer.0) r (member_from_contains (log_rows opening) r c)))) d

  by_half : Member (log_rows opening) row ⊎ Member (log_rows longer.0) row → Contains (live (log_rows opening)) row ⊎ ((l : LogRow AuthorisedValue) × Member longer.0 l × (entry_row l.row ≡ row))
  by_half (inl m) = inl (((IsLive-live (log_rows opening)).members row).1 (contains_from_member (log_rows opening) row m, undominated))
  by_half (inr m) = inr (map_member (λ (l : LogRow AuthorisedValue). entry_row l.row) longer.0 row m)

  pub live_or_behind : Contains (live (log_rows opening)) row ⊎ ((l : LogRow AuthorisedValue) × Member longer.0 l × (entry_row l.row ≡ row))
  live_or_behind =
      let k = ((IsLive-live (log_rows log)).members row).0 is in
      by_half (member_append_cases (log_rows opening) (log_rows longer.0) row (subst (λ l. Member l row) all_rows (member_from_contains (log_rows log) row k.0)))

-- ---- what is fed behind a position

module _ (area : Area) (own : ℕ) (opening log : List (LogRow AuthorisedValue)) (longer : IsPrefix opening log) where
  fed_behind : fed (logged entry_row log) area own (length opening) (length log) ≡ fed_of area own (logged entry_row longer.0)
  fed_behind =
      let f = log_value entry_row in
      let split : logged entry_row log ≡ logged entry_row opening ++ logged entry_row longer.0 = ap (map f) (sym longer.1) ∙ map-append f opening longer.0 in
      let behind : drop (length opening) (logged entry_row log) ≡ logged entry_row longer.0 =
      ap (drop (length opening)) split ∙ ap (λ n. drop n (logged entry_row opening ++ logged entry_row longer.0)) (sym (length-map opening f)) ∙ drop-prefix (logged entry_row opening) (logged entry_row longer.0) in
      ap (λ l. fed_of area own (take (length log - length opening) l)) behind
      ∙ ap (fed_of area own) (take_all (length log - length opening) (logged entry_row longer.0) (omega (arith, length-map longer.0 f, ap length longer.1, length-append opening longer.0)))

  fed_member : (l : LogRow AuthorisedValue) → Member longer.0 l → has_entry area (entry_row l.row) ≡ true → (l.pass ≡ own → ⊥) → Member (fed (logged entry_row log) area own (length opening) (length log)) (entry_row l.row)
  fed_member l m inside other =
      let v = log_value entry_row l in
      subst (λ rows. Member rows (entry_row l.row)) (sym fed_behind)
      (member_map (λ (x : LogValue). x.row) (filter (is_fed area own) (logged entry_row longer.0)) v
      (member_filter (is_fed area own) (logged entry_row longer.0) v (member_map (log_value entry_row) longer.0 l m) (both (has_entry area (entry_row l.row)) (eqb l.pass own) inside (not_own (eqb l.pass own) refl))))
    where
      not_own : (b : Bool) → eqb l.pass own ≡ b → b ≡ false
      not_own true e = absurd (other (eqb-true l.pass own e))
      not_own false e = refl

      both : (a b : Bool) → a ≡ true → b ≡ false → (a && not b) ≡ true
      both true false e f = refl
      both true true e f = sym f
      both false b e f = e

  fed_inside : (row : RowValue) → Member (fed (logged entry_row log) area own (length opening) (length log)) row → has_entry area row ≡ true
  fed_inside row m =
      let v = map_member (λ (x : LogValue). x.row) (filter (is_fed area own) (logged entry_row longer.0)) row (subst (λ rows. Member rows row) fed_behind m) in
      ap (has_entry area) (sym v.2) ∙ first_true (has_entry area v.0.row) (not (eqb v.0.pass own)) (filter_member (is_fed area own) (logged entry_row longer.0) v.0 v.1).1
    where
      first_true : (a b : Bool) → (a && b) ≡ true → a ≡ true
      first_true true b e = refl
      first_true false b e = e

  fed_few : length (fed (logged entry_row log) area own (length opening) (length log)) ≤ length longer.0
  fed_few =
      let v = logged entry_row longer.0 in
      omega (arith, ap length fed_behind, length-map (filter (is_fed area own) v) (λ (x : LogValue). x.row), length-filter (is_fed area own) v, count_by-le-length (is_fed area own) v, length-map longer.0 (log_value entry_row))

-- ---- rows that are all authorised

module _ (rules : Rules) (namespace : List ℕ) where
  all_authorised : (rows : List RawValue) → ((row : RawValue) → Member rows row → row_refusal rules namespace row ≡ None) → authorised rules namespace rows ≡ rows
  unfolding is_authorised
  all_authorised [] h = refl
  all_authorised (row ∷ rows) h =
      ap (λ (o : Option RowRefusal). cond (not (is_some o)) (row ∷ authorised rules namespace rows) (authorised rules namespace rows)) (h row (inl refl))
      ∙ ap (λ l. row ∷ l) (all_authorised rows (λ r m. h r (inr m)))

  -- rows that are fed can be read
  pub fit_rows : (area : Area) (rows : List RowValue) → All (IsAuthorisedRow rules namespace) rows → ((row : RowValue) → Member rows row → has_entry area row ≡ true) → length rows ≤ LOG_LIMIT → AreFit area rows
  fit_rows area rows authorised inside few = record {
    read_out = λ k d within. let f = authorised k d within in raw_row (get_or rows k d) f;
    framed = λ k d within. let f = authorised k d within in subst HasFrame f.read_out (has_frame f.raw (fits_frame rules namespace f.raw f.fits (refusal_none rules namespace (get_or rows k d) f)));
    inside = λ k d within. inside (get_or rows k d) (member_from_contains rows (get_or rows k d) (Contains-get_or rows k d within));
    few = few;
  }
    where
      raw_row : (row : RowValue) → IsAuthorisedRow rules namespace row → IsRawRow row
      raw_row row f = subst IsRawRow f.read_out (record { entry_fits = f.fits.entry_fits; read_out = f.raw.token; token_fits = f.fits.token_fits; spelled = refl })

-- ---- the law

-- the same bytes behind the same
same_behind : (told : List ℕ) (old new : Option (List ℕ)) (xs ys : List ℕ) → old ≡ Some told → Extends old new xs → Extends old new ys → xs ≡ ys
same_behind told old new xs ys is one other = append_cancel_left told xs ys (both (subst (λ o. Extends o new xs) is one) (subst (λ o. Extends o new ys) is other))
  where
    both : Extends (Some told) new xs → Extends (Some told) new ys → told ++ xs ≡ told ++ ys
    both a b = let e : Some (told ++ xs) ≡ Some (told ++ ys) = sym a ∙ b in cc

module _ {H P A F X T I G C : Type 0} (r : Scene H P A F X T I G C) (f : IsFollowed r) where
  abbrev number : ℕ
  number = r.server.after.number

  abbrev opening : List (LogRow AuthorisedValue)
  opening = r.server.opening

  abbrev log : List (LogRow AuthorisedValue)
  log = r.feeder.seen

  abbrev covers : RowValue → Type 0
  covers row = HasCovering (log_rows r.after.seen) row

  longer : IsPrefix opening log
  longer = prefix_trans opening r.server.after.seen log f.met.served.opened.1 f.fed_later

  abbrev fed_rows : List RowValue
  fed_rows = rows_to_feed r

  few_fed : length fed_rows ≤ LOG_LIMIT
  few_fed = omega (arith, f.fed_pass.log.few, fed_few r.area number opening log longer, ap length longer.1, length-append opening longer.0)

  took : f.follows.bytes ≡ feed_spelling fed_rows
  took = same_behind f.told r.feeding.held r.feeding'.held f.follows.bytes (feed_spelling fed_rows) f.tells f.took f.feeds.held

  -- the rows that were read are those that were fed
  read_is_fed : map row_of f.follows.rows ≡ fed_rows
  read_is_fed =
      f.follows.sent ∙ ap (rows_fed r.area) took
      ∙ ap (λ (m : Move ℕ FeedMessage RowValue CoreRefusal). m.rows) (feed_read r.area fed_rows (fit_rows r.rules r.namespace r.area fed_rows f.authorised (fed_inside r.area number opening log longer) few_fed))

  authorised_all : authorised_rows r.rules r.namespace f.follows.rows ≡ map row_of f.follows.rows
  authorised_all = ap (map row_of) (all_authorised r.rules r.namespace f.follows.rows each)
    where
      each : (row : RawValue) → Member f.follows.rows row → row_refusal r.rules r.namespace row ≡ None
      each row m =
          let is = All-contains (IsAuthorisedRow r.rules r.namespace) fed_rows (row_of row) f.authorised (contains_from_member fed_rows (row_of row) (subst (λ l. Member l (row_of row)) read_is_fed (member_map row_of f.follows.rows row m))) in
          let same : is.raw ≡ row = one_raw is.raw row is.fits (All-contains IsRaw f.follows.rows row f.follows.read_out (contains_from_member f.follows.rows row m)) is.read_out in
          ap (row_refusal r.rules r.namespace) (sym same) ∙ refusal_none r.rules r.namespace (row_of row) is

  fed_covered : (row : RowValue) → Member fed_rows row → covers row
  fed_covered row m =
      All-contains (HasCovering (log_rows r.after.seen)) (authorised_rows r.rules r.namespace f.follows.rows) row f.follows.covers
      (contains_from_member (authorised_rows r.rules r.namespace f.follows.rows) row (subst (λ l. Member l row) (sym (authorised_all ∙ read_is_fed)) m))

  -- what the server's session stored since is what it was brought
  brought_is : rows_of_pass number longer.0 ≡ brought r f.met
  brought_is =
      append_cancel_left (rows_of_pass number opening) (rows_of_pass number longer.0) (brought r f.met)
      (sym (filter-append (λ (l : LogRow AuthorisedValue). eqb number l.pass) opening longer.0) ∙ ap (rows_of_pass number) longer.1 ∙ f.none_stored ∙ own_brought r f.met)

  had_covered : (row : RowValue) → HasCovering (log_rows r.caller.after.seen) row → covers row
  had_covered row h = covering_later r.caller.after.seen r.after.seen f.follows.later.seen row h

  own_covered : (l : LogRow AuthorisedValue) → Member longer.0 l → l.pass ≡ number → HasCovering (log_rows r.caller.after.seen) (entry_row l.row)
  own_covered l m is = brought_covered r f.met l (subst (λ rows. Member rows l) brought_is (member_filter (λ (x : LogRow AuthorisedValue). eqb number x.pass) longer.0 l m (eq-eqb number l.pass (sym is))))

  behind_covered : (l : LogRow AuthorisedValue) → Member longer.0 l → has_entry r.area (entry_row l.row) ≡ true → (b : Bool) → eqb l.pass number ≡ b → covers (entry_row l.row)
  behind_covered l m inside true is = had_covered (entry_row l.row) (own_covered l m (eqb-true l.pass number is))
  behind_covered l m inside false is = fed_covered (entry_row l.row) (fed_member r.area number opening log longer l m inside (λ e. untrue (sym is ∙ eq-eqb l.pass number e)))
    where
      untrue : false ≡ true → ⊥
      untrue e = cc

  seen_covers : (row : RowValue) → has_entry r.area row ≡ true → Contains (live (log_rows opening)) row ⊎ ((l : LogRow AuthorisedValue) × Member longer.0 l × (entry_row l.row ≡ row)) → covers row
  seen_covers row inside (inl is) = had_covered row (gave r f.met row is inside)
  seen_covers row inside (inr behind) = subst covers behind.2 (behind_covered behind.0 behind.1 (ap (has_entry r.area) behind.2 ∙ inside) (eqb behind.0.pass number) refl)

  pub followed_covers : (row : RowValue) → Contains (live (log_rows r.feeder.seen)) row → has_entry r.area row ≡ true → HasCovering (live (log_rows r.after.seen)) row
  followed_covers row is inside = live_covering (log_rows r.after.seen) row (seen_covers row inside (live_or_behind opening log longer row is))

pub following_covers : {H P A F X T I G C : Type 0} → FollowingCovers H P A F X T I G C
following_covers r f row is inside = followed_covers r f row is inside
