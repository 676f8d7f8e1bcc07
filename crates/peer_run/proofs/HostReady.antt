-- What a side brings may run sessions: its rows are those of the first pass, its hello passes, and each of its signers can
-- sign.
use Rattle.std.proofs.Common.{◌≡◌, ◌∙◌, ℕ, ◌≤◌, List, ◌++◌, Option, None, length, sym, ap, subst, arith}
use Rattle.std.specs.Prelude.{Ok}
use Rattle.std.specs.List.{All}
use Rattle.std.specs.declared.string.String.{String}
use Rattle.std.specs.declared.alloc.Global.{Global}
use Rattle.log_rule.specs.Views.{AreOf}
use Rattle.area_interest.specs.declared.interest.Interest.{Interest}
use Rattle.lms_core.specs.Use.{peer_rules}
use Rattle.sync_hello.specs.Checked.{hello_refusal}
use Rattle.sync_core.specs.SyncRules.{IsVersion}
use Rattle.sync_link.specs.Plans as plans
use Rattle.sync_msg.specs.declared.role.Role.{Role}
use Rattle.sync_hello.specs.declared.hello.Hello.{Hello}
use Rattle.peer_make.specs.KeySigners.{AreSignersOf, left_of}
use Rattle.peer_make.proofs.Many.{as_many, none_signed}
use Rattle.peer_stage.specs.World.{World}
use Rattle.peer_words.specs.declared.command.AreaWords.{AreaWords}
use Rattle.peer_words.specs.declared.command.SignerWord.{SignerWord}
use Rattle.peer_run.specs.Greeting.{own_hello}
use Rattle.peer_run.specs.LogFiles.{FileState}
use Rattle.peer_run.specs.Opening.{IsOpened}
use Rattle.peer_run.specs.Preparing.{no_nonce, nonce_of, plan_of}
use Rattle.peer_run.specs.Hosting.{OpensHouse}
use Rattle.peer_run.specs.declared.opening.Opening.{Opening}
use Rattle.peer_run.specs.declared.sessions.House as house
use Rattle.peer_run.proofs.SideReady.{plan_passes, plan_speaks}
use Rattle.peer_run.proofs.SideBegun.{HasPrepared, has_prepared}

module _ (role : Role) (image cap : String Global) (key : SignerWord) (links : ℕ) (area : AreaWords) (limits : Interest) (log : Option (String Global)) (file : Option FileState) (old new : World) (s : house.House)
    (opens : OpensHouse role image cap key links area limits log file old new (Ok s)) where
  has : HasPrepared image cap area log file old opens.between opens.value
  has = has_prepared image cap area log file old opens.between opens.value opens.given

  opened : IsOpened has.given.namespace (has.given.rows.items ++ has.filed) s.opening
  opened = subst (λ (x : Opening). IsOpened has.given.namespace (has.given.rows.items ++ has.filed) x) (sym (ap (λ (t : house.House). t.opening) opens.rest.rest.0)) has.opened

  plan_is : s.plan ≡ plan_of role (own_hello area has.capability no_nonce) limits
  plan_is = ap (λ (t : house.House). t.plan) opens.rest.rest.0 ∙ ap (λ (h : Hello). plan_of role h limits) has.hello_is

  -- all rows are of the first pass
  pub house_own : AreOf 0 s.opening.state.log
  house_own = opened.own

  -- what it says of itself passes, whatever is drawn
  pub house_hello : (draw : List ℕ) → hello_refusal peer_rules s.opening.state.namespace (plans.own_hello s.plan (nonce_of draw)) ≡ None
  house_hello draw =
      subst (λ (n : List ℕ). hello_refusal peer_rules n (plans.own_hello s.plan (nonce_of draw)) ≡ None) (sym opened.of_namespace)
      (plan_passes role has.given.namespace area limits has.capability (nonce_of draw) s.plan plan_is has.passes)

  -- in a version that is spoken
  pub house_version : IsVersion s.plan.version
  house_version = plan_speaks role area limits has.capability s.plan plan_is

  are_signers : AreSignersOf key links opens.between.shelf opens.rest.between.shelf s.signers.items
  are_signers =
      subst (λ (t : house.House). AreSignersOf key links opens.between.shelf opens.rest.between.shelf t.signers.items) (sym opens.rest.rest.0) opens.rest.given.does

  -- there is a signer for each link
  pub house_many : length s.signers.items ≡ links
  house_many = as_many key links opens.between.shelf opens.rest.between.shelf s.signers.items are_signers

  -- each can sign
  pub house_signs : All (λ signer. 1 ≤ left_of signer) s.signers.items
  house_signs k d within = omega (arith, none_signed key links opens.between.shelf opens.rest.between.shelf s.signers.items are_signers k d within)
