use Rattle.std.proofs.Common.{refl, ◌∙◌}
use Rattle.std.proofs.lemmas.Result.{err_from_is_err_and}
use Rattle.lms_core.specs.Use.{peer_rules}
use Rattle.auth_entry.proofs.Meaning.{own_namespace}
use Rattle.peer_run.proofs.Opened.{opened_kept, opened_stopped}
use Rattle.peer_run.proofs.opening.Opening.keep.Goals as goal

pub ingest-requires : goal.ingest-requires
ingest-requires c = own_namespace peer_rules c.args.entry.namespace c.args.entry.row c.args.entry.row refl c.requires.authorised ∙ c.requires.namespace

pub returns-in_err-ingest : goal.returns-in_err-ingest
returns-in_err-ingest c = λ seen opened.
    let p = err_from_is_err_and c.from_residual.result c.from_residual.ensures.1 in
    rw (p.1, p.2) (opened_stopped c.args.entry.namespace seen c.args.self.now (record { state = c.ingest.new.self; rows = c.args.self.now.rows; first = c.args.self.now.first }) c.args.entry c.ingest.new.self c.in_err-ingest.field-0.0 c.requires.authorised opened c.in_err-ingest.ensures.answer)

pub returns : goal.returns
returns c = λ seen opened.
    opened_kept c.args.entry.namespace seen c.args.self.now c.args.entry.row opened c.args.entry c.ingest.new.self c.requires.authorised refl c.in_ok-ingest.field-0 c.ingest.ensures.namespace c.in_ok-ingest.ensures.answer c.in_ok-ingest.ensures.covers
