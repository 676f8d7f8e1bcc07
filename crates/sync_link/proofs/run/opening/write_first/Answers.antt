use Rattle.std.proofs.Common.{rules, ◌≡◌, ℕ, ◌++◌, List, sym, ap, ◌∙◌, subst}
use Rattle.willow_outside.specs.Told.{Extends}
use Rattle.willow_outside.proofs.Extended.{extends-none}
use Rattle.sync_msg.specs.declared.role.Role.{Role}
use Rattle.sync_msg.specs.declared.role.Role.TheVariants.{Caller, Answerer}
use Rattle.sync_hello.specs.HelloForm.{hello_spelling}
use Rattle.sync_link.specs.Progress.{first_bytes}
use Rattle.sync_link.specs.Writing.{WritesFront}
use Rattle.sync_link.proofs.run.opening.write_first.Goals as goal

pub returns-in-Answerer-clause-held : goal.returns-in-Answerer-clause-held
returns-in-Answerer-clause-held g c =
    let held = (g.L.Link.facts c.args.link.now).held in
    let is : c.args.role ≡ Answerer = search rules in
    subst (λ (role : Role). Extends held held (first_bytes role c.args.hello.now)) (sym is) (extends-none held)

pub returns-clause-held : goal.returns-clause-held
returns-clause-held g c = (0, extends-none (g.L.Link.facts c.args.link.now).held)

pub returns-in-Ok-clause-held : goal.returns-in-Ok-clause-held
returns-in-Ok-clause-held g c =
    let is : c.args.role ≡ Caller = search rules in
    let said : c.deref.result.now ≡ first_bytes c.args.role c.args.hello.now =
    c.deref.ensures.value ∙ c.in-Ok.ensures.spelled ∙ ap (λ (l : List ℕ). l ++ hello_spelling c.args.hello.now) c.new-out.ensures.items ∙ sym (ap (λ (role : Role). first_bytes role c.args.hello.now) is) in
    subst (λ (l : List ℕ). WritesFront (g.L.Link.facts c.args.link.now).held (g.L.Link.facts c.write_all.new.link).held l c.write_all.result) said c.write_all.ensures.held
