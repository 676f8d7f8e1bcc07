-- A guest for each signer, and what is left behind the visits.
use Rattle.std.proofs.Common.{◌≡◌, ℕ, Bool, Option, suc, ◌+◌, ◌≤◌, ◌<◌, List, [], ◌∷◌, ◌++◌, length, map, take, get_or, refl, sym, ap, ap₂, ◌∙◌, subst, arith, append_assoc, append-nil, length-append}
use Rattle.std.specs.Prelude.{None, Ok, Err}
use Rattle.std.specs.List.{All, AllByRecursion}
use Rattle.std.proofs.lemmas.List.{length-map, map-append, take_more, take_all}
use Rattle.std.proofs.lemmas.List.Elements.{All-from_recursion, recursion_from_All}
use Rattle.spelling.proofs.Lists.{All-right}
use Rattle.log_rule.proofs.Prefixes.{prefix_length}
use Rattle.willow_outside.specs.Facts.{LinkFacts, DoorFacts}
use Rattle.willow_outside.specs.declared.fault.Fault.{Fault}
use Rattle.link_host.specs.Visits as hosts
use Rattle.auth_entry.specs.Authorised.{AuthorisedValue}
use Rattle.lms_core.specs.Use.{peer_rules}
use Rattle.ns_cell.specs.Passes.{PassValue, IsPassOf}
use Rattle.sync_hello.specs.Checked.{hello_refusal}
use Rattle.sync_core.specs.SyncRules.{IsVersion}
use Rattle.sync_link.specs.Plans.{own_hello}
use Rattle.sync_link.specs.Run.{Answer, Runs}
use Rattle.sync_link.specs.Sessions.{Party}
use Rattle.peer_make.specs.KeySigners.{left_of}
use Rattle.peer_make.specs.declared.key_signer.KeySigner.{KeySigner}
use Rattle.peer_run.specs.Accepting.{AreReceived}
use Rattle.peer_run.specs.Behind.{HasSeenOwn}
use Rattle.peer_run.specs.Feeding.{HasSeenOpening}
use Rattle.peer_run.specs.Hall.{DoesVisit, MayVisit}
use Rattle.peer_run.specs.Preparing.{nonce_of}
use Rattle.peer_run.specs.declared.hall.Guest.{Guest}
use Rattle.peer_run.specs.declared.hall.Hall.{Hall}
use Rattle.peer_run.specs.declared.hall.Parting.{Parting}
use Rattle.peer_run.proofs.SharedLog.{never_empty, heads, tails}
use Rattle.peer_run.proofs.Guests.{Passes, Hosting, passes_of, signers_of, nonces_of, jobs_of, partings_of, handed_on}

-- ---- the guests

as_long : (guests : List Guest) → length (passes_of guests) ≡ length guests
as_long [] = refl
as_long (g ∷ gs) = ap suc (as_long gs)

pub as_signed : (guests : List Guest) → length (signers_of guests) ≡ length guests
as_signed [] = refl
as_signed (g ∷ gs) = ap suc (as_signed gs)

module _ (all : Passes) (signers : List KeySigner) (draws : List (List ℕ)) where
  -- Each signer that was taken has a guest, with the next pass and the nonce of the next draw.
  pub record HasPaired (guests : List Guest) (left : Passes) (taken rest : List KeySigner) : Type 0 where
    pub passes : passes_of guests ++ left ≡ all
    pub signs : signers_of guests ≡ taken
    pub whole : taken ++ rest ≡ signers
    pub nonces : nonces_of guests ≡ map nonce_of (take (length guests) draws)

  pub paired_start : (left : Passes) (rest : List KeySigner) → left ≡ all → rest ≡ signers → HasPaired [] left [] rest
  paired_start left rest passes same = record { passes = passes; signs = refl; whole = same; nonces = refl }

  module _ (guests : List Guest) (left : Passes) (taken rest : List KeySigner) (paired : HasPaired guests left taken rest) (fits : length all ≡ length signers) where
    -- there is a guest for each signer that was taken
    pub paired_count : length guests + length rest ≡ length signers
    paired_count = omega (arith, as_signed guests, ap length paired.signs, ap length paired.whole, length-append taken rest)

    -- and a pass for each that is left
    pub paired_left : length left ≡ length rest
    paired_left = omega (arith, fits, paired_count, as_long guests, ap length paired.passes, length-append (passes_of guests) left)

    pub paired_on : (guest : Guest) (left' : Passes) (rest' : List KeySigner) (d : List ℕ) → left ≡ guest.pass ∷ left' → rest ≡ guest.signer ∷ rest' → length draws ≡ length signers → guest.nonce ≡ nonce_of (get_or draws (length guests) d)
        → HasPaired (guests ++ guest ∷ []) left' (taken ++ guest.signer ∷ []) rest'
    paired_on guest left' rest' d next signer same nonce =
        let within : length guests < length draws = omega (arith, paired_count, ap length signer, same) in
        let long : length guests + 1 ≡ length (guests ++ guest ∷ []) = omega (arith, length-append guests (guest ∷ [])) in
        record {
          passes =
              ap (λ (ps : Passes). ps ++ left') (map-append (λ (g : Guest). g.pass) guests (guest ∷ []))
              ∙ (append_assoc (passes_of guests) (guest.pass ∷ []) left' ∙ (ap (λ (ps : Passes). passes_of guests ++ ps) (sym next) ∙ paired.passes));
          signs = map-append (λ (g : Guest). g.signer) guests (guest ∷ []) ∙ ap (λ (ss : List KeySigner). ss ++ guest.signer ∷ []) paired.signs;
          whole = append_assoc taken (guest.signer ∷ []) rest' ∙ (ap (λ (ss : List KeySigner). taken ++ ss) (sym signer) ∙ paired.whole);
          nonces =
              map-append (λ (g : Guest). g.nonce) guests (guest ∷ [])
              ∙ (ap₂ (λ (ns : List (List ℕ)) (n : List ℕ). ns ++ n ∷ []) paired.nonces nonce
              ∙ (sym (map-append nonce_of (take (length guests) draws) (get_or draws (length guests) d ∷ []))
              ∙ (ap (map nonce_of) (sym (take_more draws (length guests) d within)) ∙ ap (λ (n : ℕ). map nonce_of (take n draws)) long)));
        }

    -- none is left
    pub paired_end : rest ≡ [] → length draws ≡ length signers → (passes_of guests ≡ all) × (signers_of guests ≡ signers) × (nonces_of guests ≡ map nonce_of draws)
    paired_end none same =
        let some : length guests ≡ length draws = omega (arith, paired_count, ap length none, same) in
        let empty : left ≡ [] = no_items left (omega (arith, paired_left, ap length none)) in (
          sym (append-nil (passes_of guests)) ∙ (ap (λ (ps : Passes). passes_of guests ++ ps) (sym empty) ∙ paired.passes),
          paired.signs ∙ (sym (append-nil taken) ∙ (ap (λ (ss : List KeySigner). taken ++ ss) (sym none) ∙ paired.whole)),
          paired.nonces ∙ ap (map nonce_of) (take_all (length guests) draws (omega (arith, some))),
        )
      where
        no_items : (ps : Passes) → length ps ≡ 0 → ps ≡ []
        no_items [] e = refl
        no_items (p ∷ ps) e = absurd (omega arith)

-- ---- they may visit

module _ (hall : Hall) (named : hall.namespace ≡ hall.cell.namespace) (hello : (draw : List ℕ) → hello_refusal peer_rules hall.cell.namespace (own_hello hall.plan (nonce_of draw)) ≡ None) (version : IsVersion hall.plan.version) where
  each_may : (guests : List Guest) (draws : List (List ℕ)) → nonces_of guests ≡ map nonce_of draws → AllByRecursion (IsPassOf hall.cell) (passes_of guests) → AllByRecursion (λ (s : KeySigner). 1 ≤ left_of s) (signers_of guests)
      → AllByRecursion (MayVisit hall) guests
  each_may [] draws nonces passes signs = tt
  each_may (g ∷ gs) [] nonces passes signs = absurd (never_empty g.nonce (nonces_of gs) nonces)
  each_may (g ∷ gs) (draw ∷ draws) nonces passes signs =
      let own = heads g.nonce (nonce_of draw) (nonces_of gs) (map nonce_of draws) nonces in
      let one : MayVisit hall g = record {
        pass = passes.0;
        namespace = named;
        hello = subst (λ (n : List ℕ). hello_refusal peer_rules hall.cell.namespace (own_hello hall.plan n) ≡ None) (sym own) (hello draw);
        version = version;
        signs = signs.0;
      } in
      (one, each_may gs draws (tails g.nonce (nonce_of draw) (nonces_of gs) (map nonce_of draws) nonces) passes.1 signs.1)

  pub all_may : (own : PassValue AuthorisedValue) (all : Passes) (guests : List Guest) (signers : List KeySigner) (draws : List (List ℕ)) → own ∷ passes_of guests ≡ all → signers_of guests ≡ signers → nonces_of guests ≡ map nonce_of draws
      → All (IsPassOf hall.cell) all → All (λ (s : KeySigner). 1 ≤ left_of s) signers → All (MayVisit hall) guests
  all_may own all guests signers draws passes same nonces of_cell signs =
      let each = recursion_from_All (IsPassOf hall.cell) (own ∷ passes_of guests) (subst (All (IsPassOf hall.cell)) (sym passes) of_cell) in
      let left = recursion_from_All (λ (s : KeySigner). 1 ≤ left_of s) (signers_of guests) (subst (All (λ (s : KeySigner). 1 ≤ left_of s)) (sym same) signs) in
      All-from_recursion (MayVisit hall) guests (each_may guests draws nonces each.1 left)

-- ---- behind their visits

module _ (hall : Hall) where
  partings_stay : (visits : List Hosting) → AllByRecursion (hosts.IsVisit (DoesVisit hall)) visits → AllByRecursion (λ (p : Parting). IsPassOf hall.cell p.pass) (partings_of visits)
  partings_stay [] each = tt
  partings_stay (v ∷ vs) each = (each.0.did.pass, partings_stay vs each.1)

  has_seen : {p : List ℕ → Party} {gives : List ℕ → List ℕ → Bool} {before : PassValue AuthorisedValue} {link link' : LinkFacts} (pass : PassValue AuthorisedValue) (end : Answer) → Runs p gives before pass link link' 0 0 end → HasSeenOpening pass end
  has_seen pass (Ok report) ran = omega (arith, ran.reported.opened, prefix_length ran.log pass.seen ran.opening.1)
  has_seen pass (Err end) ran = tt

  partings_seen : (visits : List Hosting) → AllByRecursion (hosts.IsVisit (DoesVisit hall)) visits → AllByRecursion HasSeenOwn (partings_of visits)
  partings_seen [] each = tt
  partings_seen (v ∷ vs) each = (has_seen v.parting.pass v.parting.end each.0.did.ran, partings_seen vs each.1)

  guests_stay : (guests : List Guest) → AllByRecursion (IsPassOf hall.cell) (passes_of guests) → AllByRecursion (λ (g : Guest). IsPassOf hall.cell g.pass) guests
  guests_stay [] each = tt
  guests_stay (g ∷ gs) each = (each.0, guests_stay gs each.1)

  module _ (guests : List Guest) (old new : DoorFacts) (partings : List Parting) (links : List LinkFacts) (unused : List Guest) (stopped : Option Fault) (did : AreReceived hall guests old new partings links unused stopped) where
    pub partings_of_cell : All (λ (p : Parting). IsPassOf hall.cell p.pass) partings
    partings_of_cell =
        subst (All (λ (p : Parting). IsPassOf hall.cell p.pass)) (sym did.partings_are)
        (All-from_recursion (λ (p : Parting). IsPassOf hall.cell p.pass) (partings_of did.visits) (partings_stay did.visits (recursion_from_All (hosts.IsVisit (DoesVisit hall)) did.visits did.each)))

    pub unused_of_cell : (own : PassValue AuthorisedValue) (all : Passes) → own ∷ passes_of guests ≡ all → All (IsPassOf hall.cell) all → All (λ (g : Guest). IsPassOf hall.cell g.pass) unused
    unused_of_cell own all passes of_cell =
        let each = recursion_from_All (IsPassOf hall.cell) (own ∷ passes_of guests) (subst (All (IsPassOf hall.cell)) (sym passes) of_cell) in
        let whole = subst (AllByRecursion (λ (g : Guest). IsPassOf hall.cell g.pass)) did.guests_are (guests_stay guests each.1) in
        All-from_recursion (λ (g : Guest). IsPassOf hall.cell g.pass) unused (All-right (λ (g : Guest). IsPassOf hall.cell g.pass) (jobs_of did.visits) unused whole)

    -- each has seen the log with which its session began
    pub seen_own : All HasSeenOwn partings
    seen_own = subst (All HasSeenOwn) (sym did.partings_are) (All-from_recursion HasSeenOwn (partings_of did.visits) (partings_seen did.visits (recursion_from_All (hosts.IsVisit (DoesVisit hall)) did.visits did.each)))

    as_many_partings : (visits : List Hosting) → length (jobs_of visits) ≡ length (partings_of visits)
    as_many_partings [] = refl
    as_many_partings (v ∷ vs) = ap suc (as_many_partings vs)

    as_many_links : (visits : List Hosting) → length (map (λ (v : Hosting). v.link) visits) ≡ length (partings_of visits)
    as_many_links [] = refl
    as_many_links (v ∷ vs) = ap suc (as_many_links vs)

    -- and has its link
    pub link_each : length links ≡ length partings
    link_each = ap length did.links_are ∙ as_many_links did.visits ∙ sym (ap length did.partings_are)

    -- of those that the door handed out
    pub links_out : length links ≤ new.out
    links_out = omega (arith, did.out, link_each, ap length did.partings_are, as_many_partings did.visits, length-map did.visits (λ (v : Hosting). v.job))

    pub all_back : length partings + length unused ≡ length guests
    all_back = omega (arith, ap length did.guests_are, ap length did.partings_are, as_many_partings did.visits, length-append (jobs_of did.visits) unused)

-- ---- all passes, and how the sessions ended

-- of these partings some were taken apart
pub record HasParted (partings : List Parting) (passes : Passes) (ends : List Answer) (taken rest : List Parting) : Type 0 where
  pub passes_are : passes ≡ handed_on taken
  pub ends_are : ends ≡ map (λ (p : Parting). p.end) taken
  pub whole : taken ++ rest ≡ partings

module _ (partings : List Parting) where
  pub parted_on : (passes : Passes) (ends : List Answer) (taken rest rest' : List Parting) (parting : Parting) → HasParted partings passes ends taken rest → rest ≡ parting ∷ rest'
      → HasParted partings (passes ++ parting.pass ∷ []) (ends ++ parting.end ∷ []) (taken ++ parting ∷ []) rest'
  parted_on passes ends taken rest rest' parting h next =
      record {
        passes_are = ap (λ (ps : Passes). ps ++ parting.pass ∷ []) h.passes_are ∙ sym (map-append (λ (p : Parting). p.pass) taken (parting ∷ []));
        ends_are = ap (λ (es : List Answer). es ++ parting.end ∷ []) h.ends_are ∙ sym (map-append (λ (p : Parting). p.end) taken (parting ∷ []));
        whole = append_assoc taken (parting ∷ []) rest' ∙ (ap (λ (ps : List Parting). taken ++ ps) (sym next) ∙ h.whole);
      }

  pub parted_end : (passes : Passes) (ends : List Answer) (taken rest : List Parting) → HasParted partings passes ends taken rest → rest ≡ [] → (passes ≡ handed_on partings) × (ends ≡ map (λ (p : Parting). p.end) partings)
  parted_end passes ends taken rest h none =
      let all : taken ≡ partings = sym (append-nil taken) ∙ (ap (λ (ps : List Parting). taken ++ ps) (sym none) ∙ h.whole) in
      (h.passes_are ∙ ap handed_on all, h.ends_are ∙ ap (map (λ (p : Parting). p.end)) all)

-- of these guests the passes of some were taken behind others
pub record HasGathered (front : Passes) (unused : List Guest) (passes : Passes) (taken rest : List Guest) : Type 0 where
  pub passes_are : passes ≡ front ++ passes_of taken
  pub whole : taken ++ rest ≡ unused

module _ (front : Passes) (unused : List Guest) where
  pub gathered_on : (passes : Passes) (taken rest rest' : List Guest) (guest : Guest) → HasGathered front unused passes taken rest → rest ≡ guest ∷ rest' → HasGathered front unused (passes ++ guest.pass ∷ []) (taken ++ guest ∷ []) rest'
  gathered_on passes taken rest rest' guest h next =
      record {
        passes_are =
            ap (λ (ps : Passes). ps ++ guest.pass ∷ []) h.passes_are
            ∙ (append_assoc front (passes_of taken) (guest.pass ∷ []) ∙ ap (λ (ps : Passes). front ++ ps) (sym (map-append (λ (g : Guest). g.pass) taken (guest ∷ []))));
        whole = append_assoc taken (guest ∷ []) rest' ∙ (ap (λ (gs : List Guest). taken ++ gs) (sym next) ∙ h.whole);
      }

  pub gathered_end : (passes : Passes) (taken rest : List Guest) → HasGathered front unused passes taken rest → rest ≡ [] → passes ≡ front ++ passes_of unused
  gathered_end passes taken rest h none =
      let all : taken ≡ unused = sym (append-nil taken) ∙ (ap (λ (gs : List Guest). taken ++ gs) (sym none) ∙ h.whole) in
      h.passes_are ∙ ap (λ (gs : List Guest). front ++ passes_of gs) all

-- of these passes some were taken behind the own one
pub record HasJoined (own : PassValue AuthorisedValue) (others passes taken rest : Passes) : Type 0 where
  pub passes_are : passes ≡ own ∷ taken
  pub whole : taken ++ rest ≡ others

module _ (own : PassValue AuthorisedValue) (others : Passes) where
  pub joined_on : (passes taken rest rest' : Passes) (pass : PassValue AuthorisedValue) → HasJoined own others passes taken rest → rest ≡ pass ∷ rest' → HasJoined own others (passes ++ pass ∷ []) (taken ++ pass ∷ []) rest'
  joined_on passes taken rest rest' pass h next =
      record {
        passes_are = ap (λ (ps : Passes). ps ++ pass ∷ []) h.passes_are;
        whole = append_assoc taken (pass ∷ []) rest' ∙ (ap (λ (ps : Passes). taken ++ ps) (sym next) ∙ h.whole);
      }

  pub joined_end : (passes taken rest : Passes) → HasJoined own others passes taken rest → rest ≡ [] → passes ≡ own ∷ others
  joined_end passes taken rest h none =
      let all : taken ≡ others = sym (append-nil taken) ∙ (ap (λ (ps : Passes). taken ++ ps) (sym none) ∙ h.whole) in
      h.passes_are ∙ ap (λ (ps : Passes). own ∷ ps) all
