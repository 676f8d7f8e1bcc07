-- What a side brings to a session by its plan.
use Rattle.std.specs.Prelude.{ℕ, List}
use Rattle.scheme_core.specs.Rules.{Rules}
use Rattle.sync_hello.specs.declared.hello.Hello.{Hello}
use Rattle.sync_link.specs.Sessions.{Party}
use Rattle.sync_link.specs.declared.plan.SessionPlan.{SessionPlan}

-- its hello
abbrev pub own_hello : {S : Type 0} → SessionPlan S → List ℕ → Hello
own_hello plan nonce = record { version = plan.version; nonce = nonce; ask = plan.ask; capability = plan.capability }

-- and all that it brings besides its rows, where this is its signature
abbrev pub planned : {S : Type 0} → Rules → List ℕ → SessionPlan S → List ℕ → List ℕ → Party
planned rules namespace plan nonce signature = record {
  rules = rules;
  namespace = namespace;
  role = plan.role;
  hello = own_hello plan nonce;
  interest = plan.interest;
  signature = signature;
}
