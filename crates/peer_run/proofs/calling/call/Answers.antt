use Rattle.std.proofs.Common.{◌≡◌, ◌∙◌, ℕ, ◌≤◌, List, [], ◌∷◌, ◌++◌, None, refl, sym, subst, ap, arith, rules}
use Rattle.std.specs.List.{All}
use Rattle.lms_core.specs.Use.{peer_rules}
use Rattle.sync_hello.specs.Checked.{hello_refusal}
use Rattle.sync_link.specs.Plans.{own_hello}
use Rattle.sync_link.specs.Run.{Answer}
use Rattle.ns_cell.specs.Closed.{IsClosed}
use Rattle.ns_cell.specs.Passes.{new_pass}
use Rattle.peer_make.specs.KeySigners.{left_of}
use Rattle.peer_make.specs.declared.key_signer.KeySigner.{KeySigner}
use Rattle.peer_run.specs.declared.tails.Tail.{Tail}
use Rattle.peer_run.proofs.CalledAlone.{called_so}
use Rattle.peer_run.proofs.calling.call.Goals as goal

-- what it says of itself passes with the nonce of the draw
pub converse-link-requires-clause-hello : goal.converse-link-requires-clause-hello
converse-link-requires-clause-hello g c κs within =
    let nonce = c.only_of-signer.ensures.nonce in
    subst (λ (n : List ℕ). hello_refusal peer_rules n (own_hello c.args.plan c.only_of-signer.result.1) ≡ None) (sym c.in_ok-cell.ensures.cell.1)
    (subst (λ (bytes : List ℕ). hello_refusal peer_rules c.args.state.namespace (own_hello c.args.plan bytes) ≡ None) (sym nonce.2) (c.requires.hello nonce.0))

-- and the one signer can sign
pub converse-link-requires-clause-signs : goal.converse-link-requires-clause-signs
converse-link-requires-clause-signs g c κs within =
    let one : All (λ signer. 1 ≤ left_of signer) (c.only_of-signer.result.0 ∷ []) = subst (λ (signers : List KeySigner). All (λ signer. 1 ≤ left_of signer) signers) c.only_of-signer.ensures.signer c.requires.sign in
    one 0 c.only_of-signer.result.0 (omega arith)

pub returns : goal.returns
returns g c =
    let talked = c.converse-link.result in
    let first : c.index_mut.result.now ≡ new_pass c.in_ok-cell.cell c.args.state.log 0 = search rules in
    let closed : IsClosed (c.converse-link.new.pass ∷ []) c.close.result.log = search rules in
    let one = c.only_of-signer.ensures in
    let answers : c.push_reserved.new.self.items ≡ talked.end ∷ [] = c.push_reserved.ensures.items ∙ ap (λ (l : List Answer). l ++ talked.end ∷ []) c.in_ok-ends.ensures.0 in
    let tails : c.push_reserved-2.new.self.items ≡ talked.tail ∷ [] = c.push_reserved-2.ensures.items ∙ ap (λ (l : List Tail). l ++ talked.tail ∷ []) c.in_ok-tails.ensures.0 in
    λ hub. (
      called_so c.args.follows c.args.place.now c.args.plan c.only_of-signer.result.0 one.nonce.0 c.args.state c.requires.opening c.in_ok-cell.cell c.in_ok-cell.ensures.cell.1
          (g.D.Door.facts c.args.door.now) (g.D.Door.facts c.connect.new.door) (g.D.Door.facts c.give_back.new.self) _ _ c.index_mut.result.now c.converse-link.new.pass c.only_of-signer.result.1 talked.end talked.tail c.close.result
          c.in_ok-link.ensures first one.nonce.2 c.converse-link.ensures.talks closed c.args.signers.items c.args.draws.now c.push_reserved.new.self.items c.push_reserved-2.new.self.items one.signer one.nonce.1 answers tails
          c.give_back.ensures.back c.give_back.ensures.out c.give_back.ensures.asked c.give_back.ensures.accepts c.give_back.ensures.faults c.close.ensures.log c.close.ensures.namespace,
      (refl, refl),
    )
