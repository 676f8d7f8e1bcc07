-- The log of a cell that had one pass.
use Rattle.std.proofs.Common.{◌≡◌, ℕ, Bool, ◌-◌, true, false, List, [], ◌∷◌, Option, refl, sym, ap, ◌∙◌, subst, inl, inr, arith}
use Rattle.std.specs.List.{All, Contains}
use Rattle.std.proofs.lemmas.List.Elements.{All-cons, All-nil, recursion_from_All}
use mathlib.Core.List.{IsPrefix}
use Rattle.willow_outside.specs.Facts.{LinkFacts, DoorFacts}
use Rattle.willow_outside.specs.Links.{list_with}
use Rattle.willow_entry.specs.declared.row.LogRow.{LogRow}
use Rattle.willow_entry.proofs.Members.{member_from_contains}
use Rattle.log_rule.specs.Views.{AreOf}
use Rattle.log_rule.proofs.Books.{rows_of_pass-own}
use Rattle.log_rule.proofs.Prefixes.{prefix_self, prefix_trans}
use Rattle.lms_core.specs.Use.{peer_rules}
use Rattle.lms_core.specs.declared.scheme.PeerScheme.{PeerScheme}
use Rattle.auth_entry.specs.Authorised.{AuthorisedValue}
use Rattle.ns_state.specs.Log.{StateValue, IsLog}
use Rattle.ns_cell.specs.Closed.{IsClosed}
use Rattle.ns_cell.specs.Passes.{CellValue, PassValue, IsLater, new_pass}
use Rattle.auth_entry.specs.Rows.{entry_row}
use Rattle.sync_link.specs.Plans.{planned}
use Rattle.sync_link.specs.Run.{Answer}
use Rattle.sync_link.specs.Sessions.{Party}
use Rattle.sync_link.specs.declared.plan.SessionPlan.{SessionPlan}
use Rattle.peer_make.specs.KeySigners.{gives_of}
use Rattle.peer_make.specs.declared.key_signer.KeySigner.{KeySigner}
use Rattle.peer_run.specs.Calling.{IsConnected}
use Rattle.peer_run.specs.Following.{TalksOverLink}
use Rattle.peer_run.specs.Preparing.{nonce_of}
use Rattle.peer_run.specs.Visiting.{Way, Visit, IsVisit, IsAlone, AreAttended}
use Rattle.peer_run.specs.declared.tails.Tail.{Tail}
use Rattle.peer_run.proofs.FollowedUp.{follows_later}

module _ {R : Type 0} (pass : PassValue R) (log : List (LogRow R)) (closed : IsClosed (pass ∷ []) log) where
  only : (other : PassValue R) → Contains (pass ∷ []) other → pass ≡ other
  only other here = elim (member_from_contains (pass ∷ []) other here) [ inl same ↦ same | inr none ↦ absurd none ]

  pub alone_each : All (λ (row : LogRow R). row.pass ≡ pass.number) log
  alone_each k d within =
      let known = closed.known k d within in
      sym known.2 ∙ sym (ap (λ (p : PassValue R). p.number) (only known.0 known.1))

  -- it has seen all of it
  pub alone_seen : pass.seen ≡ log
  alone_seen = ap (λ (p : PassValue R). p.seen) (only closed.longest.0 closed.longest.1) ∙ closed.longest.2

  -- all rows are its own
  pub alone_own : pass.own ≡ log
  alone_own = sym (closed.own 0 pass (omega arith)) ∙ rows_of_pass-own pass.number log (recursion_from_All (λ (row : LogRow R). row.pass ≡ pass.number) log alone_each)

-- ---- a session over a link, of the only pass

module _ (follows : Bool) (place : List ℕ) (plan : SessionPlan PeerScheme) (signer : KeySigner) (draw : List ℕ) (opening : StateValue AuthorisedValue) (of_first : AreOf 0 opening.log) (cell : CellValue) (of_namespace : cell.namespace ≡ opening.namespace)
    (old between new : DoorFacts) (handed_out link : LinkFacts) (before after : PassValue AuthorisedValue) (nonce : List ℕ) (answer : Answer) (tail : Tail) (state : StateValue AuthorisedValue)
    (connected : IsConnected place old between handed_out) (first : before ≡ new_pass cell opening.log 0) (is_nonce : nonce ≡ nonce_of draw)
    (talked : TalksOverLink follows (planned peer_rules cell.namespace plan nonce) (gives_of signer) before after handed_out link answer tail)
    (closed : IsClosed (after ∷ []) state.log) where
  abbrev way : Way
  way = record { awaited = false; follows = follows; place = place }

  abbrev brings : List ℕ → List ℕ → Party
  brings draw = planned peer_rules opening.namespace plan (nonce_of draw)

  -- behind the session, what followed left the pass the same
  more : IsLater talked.between after
  more = follows_later _ _ _ talked.between after talked.behind link tail talked.followed

  number : after.number ≡ 0
  number = more.number ∙ (talked.ran.later.number ∙ ap (λ (p : PassValue AuthorisedValue). p.number) first)

  seen : after.seen ≡ state.log
  seen = alone_seen after state.log closed

  each : All (λ (row : LogRow AuthorisedValue). row.pass ≡ 0) state.log
  each = subst (λ (n : ℕ). All (λ (row : LogRow AuthorisedValue). row.pass ≡ n) state.log) number (alone_each after state.log closed)

  talks : TalksOverLink follows (brings draw) (gives_of signer) before after handed_out link answer tail
  talks =
      subst (λ (n : List ℕ). TalksOverLink follows (planned peer_rules n plan (nonce_of draw)) (gives_of signer) before after handed_out link answer tail) of_namespace
      (subst (λ (n : List ℕ). TalksOverLink follows (planned peer_rules cell.namespace plan n) (gives_of signer) before after handed_out link answer tail) is_nonce talked)

  abbrev visit : Visit
  visit = record { handed_out = handed_out; behind = talks.behind; link = link; before = before; between = talks.between; after = after; answer = answer; tail = tail }

  is_visit : IsVisit false follows opening.log state.log brings 0 signer draw visit
  is_visit =
      record {
        fresh = connected.fresh;
        begun = (ap (λ (p : PassValue AuthorisedValue). p.seen) first, ap (λ (p : PassValue AuthorisedValue). p.own) first ∙ sym (rows_of_pass-own 0 opening.log of_first));
        unturned = ap (λ (p : PassValue AuthorisedValue). p.turns) first;
        ran = talks.ran;
        by_byte = λ called. talks.by_byte;
        followed = talks.followed;
        front = subst (λ (l : List (LogRow AuthorisedValue)). IsPrefix l state.log) (sym seen) (prefix_self state.log);
        own = alone_own after state.log closed ∙ sym (rows_of_pass-own 0 state.log (recursion_from_All (λ (row : LogRow AuthorisedValue). row.pass ≡ 0) state.log each));
      }

  is_alone : IsAlone opening.log state.log visit
  is_alone = record { began = ap (λ (p : PassValue AuthorisedValue). p.own) first; seen = seen; own = alone_own after state.log closed }

  front : IsPrefix opening.log state.log
  front =
      subst (λ (l : List (LogRow AuthorisedValue)). IsPrefix l state.log) (ap (λ (p : PassValue AuthorisedValue). p.seen) first)
      (subst (λ (l : List (LogRow AuthorisedValue)). IsPrefix before.seen l) seen (prefix_trans before.seen talked.between.seen after.seen (prefix_trans before.seen talked.ran.log talked.between.seen talked.ran.opening.0 talked.ran.opening.1) more.seen))

  called_alone : new.back ≡ list_with link between.back → new.out ≡ between.out - 1 → new.asked ≡ between.asked → new.accepts ≡ between.accepts → new.faults ≡ between.faults
      → IsLog entry_row cell.namespace state.log → state.namespace ≡ cell.namespace → AreAttended way brings (signer ∷ []) (draw ∷ []) opening old new (answer ∷ []) (tail ∷ []) true state
  called_alone back out asked accepts faults is_log same =
      record {
        visits = visit ∷ [];
        are_visits = (is_visit, tt);
        shared = record { front = front; of_first = of_first; opening_own = λ awaited. absurd cc; numbered = λ k d within. let none = each k d within in omega (arith, none) };
        called = λ call. record { came = refl; one = refl; alone = All-cons (IsAlone opening.log state.log) visit [] is_alone (All-nil (IsAlone opening.log state.log)) };
        is_log = subst (λ (n : List ℕ). IsLog entry_row n state.log) of_namespace is_log;
        of_namespace = same ∙ of_namespace;
        ends = refl;
        tailed = refl;
        back = record {
          asked = asked ∙ connected.asked;
          out = omega (arith, out, connected.out);
          back = back ∙ ap (λ (told : Option (List LinkFacts)). list_with link told) connected.back;
        };
        accepts = (refl, faults ∙ connected.faults, accepts ∙ connected.accepts);
      }

  -- of the one signer, the one draw and the one answer
  pub called_so : (signers : List KeySigner) (draws : List (List ℕ)) (answers : List Answer) (tails : List Tail) → signers ≡ signer ∷ [] → draws ≡ draw ∷ [] → answers ≡ answer ∷ [] → tails ≡ tail ∷ []
      → new.back ≡ list_with link between.back → new.out ≡ between.out - 1 → new.asked ≡ between.asked → new.accepts ≡ between.accepts → new.faults ≡ between.faults
      → IsLog entry_row cell.namespace state.log → state.namespace ≡ cell.namespace → AreAttended way brings signers draws opening old new answers tails true state
  called_so signers draws answers tails one_signer one_draw one_answer one_tail back out asked accepts faults is_log same =
      subst (λ (s : List KeySigner). AreAttended way brings s draws opening old new answers tails true state) (sym one_signer)
      (subst (λ (d : List (List ℕ)). AreAttended way brings (signer ∷ []) d opening old new answers tails true state) (sym one_draw)
      (subst (λ (a : List Answer). AreAttended way brings (signer ∷ []) (draw ∷ []) opening old new a tails true state) (sym one_answer)
      (subst (λ (t : List Tail). AreAttended way brings (signer ∷ []) (draw ∷ []) opening old new (answer ∷ []) t true state) (sym one_tail) (called_alone back out asked accepts faults is_log same))))
