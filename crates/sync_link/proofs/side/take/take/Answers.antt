use Rattle.std.proofs.Common.{rules, ◌≡◌, ℕ, [], None, map, refl, sym, subst, ◌∙◌}
use Rattle.cap_codec.specs.Rows.{row_of}
use Rattle.sync_core.specs.Place.{stage_of}
use Rattle.sync_core.specs.declared.stage.Stage.TheVariants as stage
use Rattle.sync_link.specs.Held.{CountsStep, progress_with}
use Rattle.sync_link.specs.Asking.{AsksWhere}
use Rattle.sync_link.specs.Signing.{OwesIn, SignsStep}
use Rattle.sync_link.specs.Taking.{Fits, Holds, IsExchange, due_after, due_behind, taken_after, taken_behind, waiting_side}
use Rattle.sync_link.specs.declared.side.awaited.Awaited.{Awaited}
use Rattle.sync_link.specs.declared.side.awaited.Awaited.TheVariants as awaited
use Rattle.sync_link.proofs.Exchanged.{item_fits, item_holds}
use Rattle.sync_link.proofs.Greeting.{hello_fits, hello_holds, hello_steps, proof_holds}
use Rattle.sync_link.proofs.Signed.{hello_greets, item_greets, proof_greets}
use Rattle.sync_link.proofs.Tally.{hello_counts, item_counts, proof_counts}
use Rattle.sync_link.proofs.side.take.take.Goals as goal

-- ---- a hello

pub returns-in_ok-came-in-Hello-clause-counts : goal.returns-in_ok-came-in-Hello-clause-counts
returns-in_ok-came-in-Hello-clause-counts g c = λ at.
    let accepts = g.S.Verify.rules in
    let value = g.R.Row.value in
    let old = c.args.participant.now in
    let new = c.take_hello.new.participant in
    let bytes = c.args.bytes.now in
    let came = c.in_ok-came-in-Hello.came in
    let next : c.put.new.due ≡ due_after awaited.Hello came = search rules in
    let taken : c.put.result ≡ taken_after came = search rules in
    subst (λ d. CountsStep (progress_with accepts value old d) (progress_with accepts value new c.put.new.due) at bytes c.put.result) (sym c.in-Hello.is)
    (subst (λ d. CountsStep (progress_with accepts value old awaited.Hello) (progress_with accepts value new d) at bytes c.put.result) (sym next)
    (subst (λ n. CountsStep (progress_with accepts value old awaited.Hello) (progress_with accepts value new (due_after awaited.Hello came)) at bytes n) (sym taken)
    (hello_counts accepts value old new at bytes c.args.out.now.items c.take_hello.new.out.items came c.in_ok-came-in-Hello.ensures.comes)))

pub returns-in_ok-came-in-Hello-clause-fits : goal.returns-in_ok-came-in-Hello-clause-fits
returns-in_ok-came-in-Hello-clause-fits g c =
    let old = c.args.participant.now in
    let new = c.take_hello.new.participant in
    let came = c.in_ok-came-in-Hello.came in
    let unsigned : old.signature ≡ None = search rules in
    let next : c.put.new.due ≡ due_after awaited.Hello came = search rules in
    subst (λ d. Fits old.role new.signature d) (sym next)
    (hello_fits g.S.Verify.rules g.R.Row.value old new c.take_hello.ensures.keeps c.args.bytes.now c.args.out.now.items c.take_hello.new.out.items [] unsigned came c.in_ok-came-in-Hello.ensures.comes)

pub returns-in_ok-came-in-Hello-clause-holds : goal.returns-in_ok-came-in-Hello-clause-holds
returns-in_ok-came-in-Hello-clause-holds g c = λ none.
    let came = c.in_ok-came-in-Hello.came in
    let next : c.put.new.due ≡ due_after awaited.Hello came = search rules in
    let taken : c.put.result ≡ taken_after came = search rules in
    subst (λ d. Holds g.S.Verify.rules g.R.Row.value c.take_hello.new.participant d c.args.bytes.now) (sym next)
    (hello_holds g.S.Verify.rules g.R.Row.value c.args.participant.now c.take_hello.new.participant c.take_hello.ensures.keeps c.args.bytes.now c.args.out.now.items c.take_hello.new.out.items [] came c.in_ok-came-in-Hello.ensures.comes (sym taken ∙ none))

pub returns-in_ok-came-in-Hello-clause-greets : goal.returns-in_ok-came-in-Hello-clause-greets
returns-in_ok-came-in-Hello-clause-greets g c = λ at.
    let gives = g.K.Signer.gives c.args.signer.now in
    let accepts = g.S.Verify.rules in
    let value = g.R.Row.value in
    let old = c.args.participant.now in
    let new = c.take_hello.new.participant in
    let bytes = c.args.bytes.now in
    let came = c.in_ok-came-in-Hello.came in
    let e = c.in_ok-came-in-Hello.ensures in
    let unsigned : old.signature ≡ None = search rules in
    let next : c.put.new.due ≡ due_after awaited.Hello came = search rules in
    let taken : c.put.result ≡ taken_after came = search rules in
    subst (λ d. SignsStep gives (waiting_side accepts value old d) (waiting_side accepts value new c.put.new.due) at bytes c.put.result) (sym c.in-Hello.is)
    (subst (λ d. SignsStep gives (waiting_side accepts value old awaited.Hello) (waiting_side accepts value new d) at bytes c.put.result) (sym next)
    (subst (λ n. SignsStep gives (waiting_side accepts value old awaited.Hello) (waiting_side accepts value new (due_after awaited.Hello came)) at bytes n) (sym taken)
    (hello_greets gives old new accepts value (due_after awaited.Hello came) bytes awaited.Hello (taken_after came) c.args.out.now.items c.take_hello.new.out.items [] [] e.greets
    (hello_steps accepts value old new c.take_hello.ensures.keeps bytes c.args.out.now.items c.take_hello.new.out.items [] unsigned came e.comes) at)))

-- ---- a proof

pub returns-in_ok-came-in-Proof-clause-greets : goal.returns-in_ok-came-in-Proof-clause-greets
returns-in_ok-came-in-Proof-clause-greets g c = λ at.
    let gives = g.K.Signer.gives c.args.signer.now in
    let accepts = g.S.Verify.rules in
    let value = g.R.Row.value in
    let old = c.args.participant.now in
    let new = c.take_proof.new.participant in
    subst (λ d. SignsStep gives (waiting_side accepts value old d) (waiting_side accepts value new c.put-in-Proof.new.due) at c.args.bytes.now c.put-in-Proof.result) (sym c.in-Proof.is)
    (proof_greets gives old new accepts value c.put-in-Proof.new.due c.args.bytes.now c.in-Proof.other c.put-in-Proof.result c.in_ok-came-in-Proof.ensures.greets at)

pub returns-in_ok-came-in-Proof-clause-counts : goal.returns-in_ok-came-in-Proof-clause-counts
returns-in_ok-came-in-Proof-clause-counts g c = λ at.
    let accepts = g.S.Verify.rules in
    let value = g.R.Row.value in
    let old = c.args.participant.now in
    let new = c.take_proof.new.participant in
    let bytes = c.args.bytes.now in
    let due = awaited.Proof c.in-Proof.other in
    let came = c.in_ok-came-in-Proof.came in
    let next : c.put-in-Proof.new.due ≡ due_after due came = search rules in
    let taken : c.put-in-Proof.result ≡ taken_after came = search rules in
    subst (λ d. CountsStep (progress_with accepts value old d) (progress_with accepts value new c.put-in-Proof.new.due) at bytes c.put-in-Proof.result) (sym c.in-Proof.is)
    (subst (λ d. CountsStep (progress_with accepts value old due) (progress_with accepts value new d) at bytes c.put-in-Proof.result) (sym next)
    (subst (λ n. CountsStep (progress_with accepts value old due) (progress_with accepts value new (due_after due came)) at bytes n) (sym taken)
    (proof_counts accepts value old new at bytes c.in-Proof.other c.args.out.now.items c.take_proof.new.out.items came c.in_ok-came-in-Proof.ensures.comes)))

pub returns-in_ok-came-in-Proof-clause-holds : goal.returns-in_ok-came-in-Proof-clause-holds
returns-in_ok-came-in-Proof-clause-holds g c = λ none.
    let came = c.in_ok-came-in-Proof.came in
    let next : c.put-in-Proof.new.due ≡ due_after (awaited.Proof c.in-Proof.other) came = search rules in
    let taken : c.put-in-Proof.result ≡ taken_after came = search rules in
    subst (λ d. Holds g.S.Verify.rules g.R.Row.value c.take_proof.new.participant d c.args.bytes.now) (sym next)
    (proof_holds g.S.Verify.rules g.R.Row.value c.args.participant.now c.take_proof.new.participant c.take_proof.ensures.keeps c.args.bytes.now c.args.out.now.items c.take_proof.new.out.items [] c.in-Proof.other came c.in_ok-came-in-Proof.ensures.comes (sym taken ∙ none))

-- ---- an item

pub returns-in_ok-came-in-Items-clause-greets : goal.returns-in_ok-came-in-Items-clause-greets
returns-in_ok-came-in-Items-clause-greets g c = λ at.
    item_greets (g.K.Signer.gives c.args.signer.now) c.args.participant.now c.args.participant.now g.S.Verify.rules g.R.Row.value c.put_item.new.due c.args.bytes.now c.args.due.now c.put_item.result refl at

pub returns-in_ok-came-in-Items-clause-counts : goal.returns-in_ok-came-in-Items-clause-counts
returns-in_ok-came-in-Items-clause-counts g c = λ at.
    let accepts = g.S.Verify.rules in
    let value = g.R.Row.value in
    let participant = c.args.participant.now in
    let bytes = c.args.bytes.now in
    let exchange = c.in-Items.exchange in
    let due = awaited.Items exchange in
    let came = c.in_ok-came-in-Items.came in
    let fits : IsExchange exchange = search rules in
    let waits : stage_of exchange.core.doing ≡ stage.Reading = search rules in
    let next : c.put_item.new.due ≡ due_behind (awaited.Items c.take_item.new.exchange) came = search rules in
    let taken : c.put_item.result ≡ taken_behind came = search rules in
    subst (λ d. CountsStep (progress_with accepts value participant d) (progress_with accepts value participant c.put_item.new.due) at bytes c.put_item.result) (sym c.in-Items.is)
    (subst (λ d. CountsStep (progress_with accepts value participant due) (progress_with accepts value participant d) at bytes c.put_item.result) (sym next)
    (subst (λ n. CountsStep (progress_with accepts value participant due) (progress_with accepts value participant (due_behind (awaited.Items c.take_item.new.exchange) came)) at bytes n) (sym taken)
    (item_counts accepts value participant participant at bytes exchange fits waits c.take_item.new.exchange c.args.out.now.items c.take_item.new.out.items (map row_of c.args.lists.now.rows.items) (map row_of c.take_item.new.lists.rows.items) came c.in_ok-came-in-Items.ensures.comes)))

pub returns-in_ok-came-in-Items-clause-fits : goal.returns-in_ok-came-in-Items-clause-fits
returns-in_ok-came-in-Items-clause-fits g c =
    let exchange = c.in-Items.exchange in
    let came = c.in_ok-came-in-Items.came in
    let fits : IsExchange exchange = search rules in
    let waits : stage_of exchange.core.doing ≡ stage.Reading = search rules in
    let next : c.put_item.new.due ≡ due_behind (awaited.Items c.take_item.new.exchange) came = search rules in
    subst (λ d. Fits c.args.participant.now.role c.args.participant.now.signature d) (sym next)
    (item_fits g.S.Verify.rules g.R.Row.value c.args.participant.now exchange c.take_item.new.exchange fits waits c.args.bytes.now c.args.out.now.items c.take_item.new.out.items (map row_of c.args.lists.now.rows.items) (map row_of c.take_item.new.lists.rows.items)
    c.args.participant.now.role came c.in_ok-came-in-Items.ensures.comes)

pub returns-in_ok-came-in-Items-clause-holds : goal.returns-in_ok-came-in-Items-clause-holds
returns-in_ok-came-in-Items-clause-holds g c = λ none.
    let exchange = c.in-Items.exchange in
    let came = c.in_ok-came-in-Items.came in
    let fits : IsExchange exchange = search rules in
    let waits : stage_of exchange.core.doing ≡ stage.Reading = search rules in
    let next : c.put_item.new.due ≡ due_behind (awaited.Items c.take_item.new.exchange) came = search rules in
    let taken : c.put_item.result ≡ taken_behind came = search rules in
    subst (λ d. Holds g.S.Verify.rules g.R.Row.value c.args.participant.now d c.args.bytes.now) (sym next)
    (item_holds g.S.Verify.rules g.R.Row.value c.args.participant.now exchange c.take_item.new.exchange fits waits c.args.bytes.now c.args.out.now.items c.take_item.new.out.items (map row_of c.args.lists.now.rows.items) (map row_of c.take_item.new.lists.rows.items)
    came c.in_ok-came-in-Items.ensures.comes (sym taken ∙ none))

-- ---- whose proof is due

pub returns-in_ok-came-in-Hello-clause-due : goal.returns-in_ok-came-in-Hello-clause-due
returns-in_ok-came-in-Hello-clause-due g c =
    subst (λ (d : Awaited g.row.R.Denot). AsksWhere c.args.participant.now.signature c.take_hello.new.participant.signature c.args.signer.now c.take_hello.new.signer ((at : ℕ) → OwesIn (waiting_side g.S.Verify.rules g.R.Row.value c.args.participant.now d at []) c.args.bytes.now)) (sym c.in-Hello.is)
    c.take_hello.ensures.due

pub returns-in_err-came-in-Hello-clause-due : goal.returns-in_err-came-in-Hello-clause-due
returns-in_err-came-in-Hello-clause-due g c =
    subst (λ (d : Awaited g.row.R.Denot). AsksWhere c.args.participant.now.signature c.take_hello.new.participant.signature c.args.signer.now c.take_hello.new.signer ((at : ℕ) → OwesIn (waiting_side g.S.Verify.rules g.R.Row.value c.args.participant.now d at []) c.args.bytes.now)) (sym c.in-Hello.is)
    c.take_hello.ensures.due

pub returns-in_ok-came-in-Proof-clause-due : goal.returns-in_ok-came-in-Proof-clause-due
returns-in_ok-came-in-Proof-clause-due g c =
    subst (λ (d : Awaited g.row.R.Denot). AsksWhere c.args.participant.now.signature c.take_proof.new.participant.signature c.args.signer.now c.take_proof.new.signer ((at : ℕ) → OwesIn (waiting_side g.S.Verify.rules g.R.Row.value c.args.participant.now d at []) c.args.bytes.now)) (sym c.in-Proof.is)
    c.take_proof.ensures.due

pub returns-in_err-came-in-Proof-clause-due : goal.returns-in_err-came-in-Proof-clause-due
returns-in_err-came-in-Proof-clause-due g c =
    subst (λ (d : Awaited g.row.R.Denot). AsksWhere c.args.participant.now.signature c.take_proof.new.participant.signature c.args.signer.now c.take_proof.new.signer ((at : ℕ) → OwesIn (waiting_side g.S.Verify.rules g.R.Row.value c.args.participant.now d at []) c.args.bytes.now)) (sym c.in-Proof.is)
    c.take_proof.ensures.due
