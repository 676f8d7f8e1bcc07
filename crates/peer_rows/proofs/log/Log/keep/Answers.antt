use Rattle.std.proofs.Common.{◌≡◌, None, refl, ◌∙◌, subst}
use Rattle.std.proofs.lemmas.Result.{err_from_is_err_and}
use Rattle.lms_core.specs.Use.{peer_rules}
use Rattle.auth_entry.specs.Authorised.{row_refusal}
use Rattle.auth_entry.proofs.Meaning.{own_namespace}
use Rattle.peer_rows.specs.Logged.{authorised_rows}
use Rattle.peer_rows.proofs.Logged.{IsLogOf-offered, offered_past}
use Rattle.peer_rows.proofs.log.Log.keep.Goals as goal

pub offer_row-requires : goal.offer_row-requires
offer_row-requires c = own_namespace peer_rules c.args.entry.namespace c.args.entry.row c.args.entry.row refl c.requires.authorised ∙ c.requires.namespace

pub returns-in_err-stored-clause-offers : goal.returns-in_err-stored-clause-offers
returns-in_err-stored-clause-offers c = λ n seen log.
    let p = err_from_is_err_and c.from_residual.result c.from_residual.ensures.1 in
    let fine = subst (λ m. row_refusal peer_rules m c.args.entry.row ≡ None) (c.requires.namespace ∙ log.of_namespace) c.requires.authorised in
    rw (p.1, p.2) (offered_past n seen c.args.entry.row c.offer_row.new.log c.args.self.now.counts c.in_err-stored.field-0.0 fine
    (c.in_err-stored.ensures.offers (authorised_rows n seen) log.taken))

pub returns-clause-offers : goal.returns-clause-offers
returns-clause-offers c = λ n seen log.
    let fine = subst (λ m. row_refusal peer_rules m c.args.entry.row ≡ None) (c.requires.namespace ∙ log.of_namespace) c.requires.authorised in
    let offers = c.in_ok-stored.ensures.offers (authorised_rows n seen) log.taken in
    rw c.offered-self.ensures (IsLogOf-offered n seen c.args.self.now.kept c.offer_row.new.log c.args.self.now.counts c.args.entry.row c.in_ok-stored.stored fine c.offer_row.ensures.namespace
    offers.0 offers.1 log)
