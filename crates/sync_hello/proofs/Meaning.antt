-- Nothing refuses a hello exactly where it passes.
use Rattle.std.proofs.Common.{◌≡◌, ◌↔◌, ℕ, ◌==◌, List, Option, Some, None, refl, ap}
use Rattle.std.specs.Prelude.{option_map}
use Rattle.std.specs.Cmp.Lexicographic.{bytes_decides}
use Rattle.std.proofs.lemmas.Bool.{ne_eqb, eqb-false}
use Rattle.spelling.specs.Answers.{or_else}
use Rattle.spelling.proofs.Causes.{or_else_both}
use Rattle.scheme_core.specs.Rules.{Rules}
use Rattle.willow_area.specs.Area.{includes_area}
use Rattle.willow_entry.specs.Entry.{same_bytes}
use Rattle.mc_cap.specs.Grant.{granted}
use Rattle.mc_cap.specs.Valid.{chain_refusal}
use Rattle.mc_cap.specs.declared.capability.Mode.{Mode}
use Rattle.mc_cap.specs.declared.capability.Mode.TheVariants.{Read, Write}
use Rattle.mc_cap.specs.declared.check.ChainRefusal.{ChainRefusal}
use Rattle.mc_cap.proofs.Causes.{if_false, unless_true, neither}
use Rattle.mc_cap.proofs.Meaning.{valid_means}
use Rattle.sync_hello.specs.declared.hello.Hello.{Hello}
use Rattle.session_end.specs.declared.refusal.HelloRefusal.TheVariants.{VersionUnknown, WrongNamespace, Chain, AskOutsideGrant}
use Rattle.sync_hello.specs.Checked.{version_refusal, namespace_refusal, mode_refusal, capability_refusal, ask_refusal, claim_refusal, hello_refusal, Passes}

reads : (mode : Mode) → mode_refusal mode ≡ None → mode ≡ Read
reads Read e = refl
reads Write e = absurd cc

pub no_chain : (o : Option ChainRefusal) → option_map Chain o ≡ None → o ≡ None
no_chain None e = refl
no_chain (Some refusal) e = absurd cc

module _ (rules : Rules) (n : List ℕ) (h : Hello) where
  pub passes : hello_refusal rules n h ≡ None → Passes rules n h
  unfolding hello_refusal claim_refusal
  passes e =
      let parts = or_else_both (or_else (version_refusal h.version) (or_else (namespace_refusal n h.capability) (mode_refusal h.capability.mode))) (or_else (capability_refusal rules h.capability) (ask_refusal h)) e in
      let claim = or_else_both (version_refusal h.version) (or_else (namespace_refusal n h.capability) (mode_refusal h.capability.mode)) parts.0 in
      let names = or_else_both (namespace_refusal n h.capability) (mode_refusal h.capability.mode) claim.1 in
      let later = or_else_both (capability_refusal rules h.capability) (ask_refusal h) parts.1 in
      record {
        speaks = eqb-false h.version 0 ((if_false (h.version == 0) VersionUnknown).0 claim.0);
        of_namespace = (bytes_decides h.capability.namespace n).0 ((unless_true (same_bytes h.capability.namespace n) WrongNamespace).0 names.0);
        reads = reads h.capability.mode names.1;
        valid = (valid_means rules h.capability).0 (no_chain (chain_refusal rules h.capability) later.0);
        within = (unless_true (includes_area (granted h.capability) h.ask) AskOutsideGrant).0 later.1;
      }

  not_refused : Passes rules n h → hello_refusal rules n h ≡ None
  unfolding hello_refusal claim_refusal
  not_refused p =
      let version : version_refusal h.version ≡ None = (if_false (h.version == 0) VersionUnknown).1 (ne_eqb h.version 0 p.speaks) in
      let namespace : namespace_refusal n h.capability ≡ None = (unless_true (same_bytes h.capability.namespace n) WrongNamespace).1 ((bytes_decides h.capability.namespace n).1 p.of_namespace) in
      let claim = neither (version_refusal h.version) (or_else (namespace_refusal n h.capability) (mode_refusal h.capability.mode)) version
      (neither (namespace_refusal n h.capability) (mode_refusal h.capability.mode) namespace (ap mode_refusal p.reads)) in
      let chain : capability_refusal rules h.capability ≡ None = ap (λ (o : Option ChainRefusal). option_map Chain o) ((valid_means rules h.capability).1 p.valid) in
      let ask = (unless_true (includes_area (granted h.capability) h.ask) AskOutsideGrant).1 p.within in
      neither (or_else (version_refusal h.version) (or_else (namespace_refusal n h.capability) (mode_refusal h.capability.mode))) (or_else (capability_refusal rules h.capability) (ask_refusal h)) claim
      (neither (capability_refusal rules h.capability) (ask_refusal h) chain ask)

  pub passes_means : (hello_refusal rules n h ≡ None) ↔ Passes rules n h
  passes_means = (passes, not_refused)
