use Rattle.std.proofs.Common.{◌≡◌, ◌++◌, ◌≤◌, take, ℕ, Bool, List, [], map, length, All, Some, Err, refl, sym, ap, ◌∙◌, subst, arith}
use Rattle.spelling.proofs.Lists.{are_bytes}
use Rattle.willow_outside.specs.Told.{Extends}
use Rattle.cap_codec.specs.Rows.{RawValue, IsRaw, row_of}
use Rattle.sync_link.specs.Progress.{progress_in}
use Rattle.sync_link.specs.Standing.{ReadsPiece}
use Rattle.sync_link.specs.Signing.{SignsTo}
use Rattle.sync_link.specs.Asking.{CountsSign}
use Rattle.sync_link.specs.UnderWay.{IsStill, now_of}
use Rattle.sync_link.specs.declared.side.standing.Stop.{Stop}
use Rattle.sync_link.proofs.Counting.{came_few}
use Rattle.sync_link.proofs.AskedFor.{asked_or_owes, unasked_or_owes}
use Rattle.sync_link.proofs.Owing.{says_if_signed}
use Rattle.sync_link.proofs.PieceTaken.{piece_read_none, tally_as, grown_as, not_taken_in, unsigned, unkept, unsent_so, goes_on}
use Rattle.sync_link.proofs.run.piece.take_piece.Goals as goal

pub returns-in-None-clause-goes_on : goal.returns-in-None-clause-goes_on
returns-in-None-clause-goes_on g c start before is u given =
    let now = now_of g.S.Verify.rules c.args.session.now c.args.pass.now before (g.K.Signer.left c.args.signer.now) (g.K.Signer.faults c.args.signer.now) in
    let few = subst (λ (n : ℕ). length c.args.piece.now ≤ n) (sym is.at_once) c.requires.piece.1 in
    not_taken_in start now u (g.L.Link.facts c.args.link.now) c.args.piece.now given (are_bytes c.args.piece.now c.type_inv.piece) c.requires.piece.0 few c.requires.open
    (IsStill now.progress.side.signature c.args.signer.now c.args.signer.now) (unasked_or_owes start now.progress u.bytes u.written u.rows u.reached c.args.signer.now c.args.signer.now c.args.piece.now refl) (g.K.Signer.faults c.args.signer.now) refl

pub returns-in-Err-clause-goes_on : goal.returns-in-Err-clause-goes_on
returns-in-Err-clause-goes_on g c start before is u given =
    let now = now_of g.S.Verify.rules c.args.session.now c.args.pass.now before (g.K.Signer.left c.args.signer.now) (g.K.Signer.faults c.args.signer.now) in
    let few = subst (λ (n : ℕ). length c.args.piece.now ≤ n) (sym is.at_once) c.requires.piece.1 in
    not_taken_in start now u (g.L.Link.facts c.args.link.now) c.args.piece.now given (are_bytes c.args.piece.now c.type_inv.piece) c.requires.piece.0 few c.requires.open
    (IsStill now.progress.side.signature c.args.signer.now c.args.signer.now) (unasked_or_owes start now.progress u.bytes u.written u.rows u.reached c.args.signer.now c.args.signer.now c.args.piece.now refl) (g.K.Signer.faults c.args.signer.now) refl

pub returns-in-Err-NoMemory-clause-goes_on : goal.returns-in-Err-NoMemory-clause-goes_on
returns-in-Err-NoMemory-clause-goes_on g c start before is u given =
    let now = now_of g.S.Verify.rules c.args.session.now c.args.pass.now before (g.K.Signer.left c.args.signer.now) (g.K.Signer.faults c.args.signer.now) in
    let few = subst (λ (n : ℕ). length c.args.piece.now ≤ n) (sym is.at_once) c.requires.piece.1 in
    not_taken_in start now u (g.L.Link.facts c.args.link.now) c.args.piece.now given (are_bytes c.args.piece.now c.type_inv.piece) c.requires.piece.0 few c.requires.open
    (IsStill now.progress.side.signature c.args.signer.now c.take_in.new.signer) (asked_or_owes start now.progress u.bytes u.written u.rows u.reached c.args.signer.now c.take_in.new.signer c.args.piece.now c.take_in.new.self.signature c.take_in.ensures.due) (g.K.Signer.faults c.take_in.new.signer)
    (subst (λ (x : Stop). CountsSign {A = Unit {0}} now.progress.side.signature now.left now.faults (g.K.Signer.faults c.take_in.new.signer) (Err x)) c.in-Err-NoMemory.field-0-is c.in-Err-NoMemory.ensures.signing.counts)

pub returns-in-Err-SignFault-clause-goes_on : goal.returns-in-Err-SignFault-clause-goes_on
returns-in-Err-SignFault-clause-goes_on g c start before is u given =
    let now = now_of g.S.Verify.rules c.args.session.now c.args.pass.now before (g.K.Signer.left c.args.signer.now) (g.K.Signer.faults c.args.signer.now) in
    let few = subst (λ (n : ℕ). length c.args.piece.now ≤ n) (sym is.at_once) c.requires.piece.1 in
    unsigned start now u (g.L.Link.facts c.args.link.now) c.args.piece.now given (are_bytes c.args.piece.now c.type_inv.piece) c.requires.piece.0 few c.requires.open
    (IsStill now.progress.side.signature c.args.signer.now c.take_in.new.signer) (asked_or_owes start now.progress u.bytes u.written u.rows u.reached c.args.signer.now c.take_in.new.signer c.args.piece.now c.take_in.new.self.signature c.take_in.ensures.due) (g.K.Signer.faults c.take_in.new.signer) is.signs
    (subst (λ (x : Stop). CountsSign {A = Unit {0}} now.progress.side.signature now.left now.faults (g.K.Signer.faults c.take_in.new.signer) (Err x)) c.in-Err-SignFault.field-0-is c.in-Err-SignFault.ensures.signing.counts)

pub take_lists-requires-clause-few : goal.take_lists-requires-clause-few
take_lists-requires-clause-few g c κs within =
    let old = (progress_in g.S.Verify.rules c.args.session.now.side).side in
    let new = (progress_in g.S.Verify.rules c.take_in.new.self).side in
    let f = subst (λ (l : List RawValue). ReadsPiece old new c.args.piece.now c.new-out.result.items c.take_in.new.out.items (map row_of l) (map row_of c.take_in.new.lists.rows.items)) (c.announce.ensures.rows ∙ c.new-came.ensures.rows) c.in-Ok-take_in.ensures.reads_piece in
    omega (arith, came_few old new c.args.piece.now c.new-out.result.items c.take_in.new.out.items c.take_in.new.lists.rows.items f, c.requires.counted.few, c.in-Some.ensures)

pub take_lists-requires-clause-sums : goal.take_lists-requires-clause-sums
take_lists-requires-clause-sums g c κs within = c.requires.counted.sums

pub returns-in-Err-take_lists-clause-goes_on : goal.returns-in-Err-take_lists-clause-goes_on
returns-in-Err-take_lists-clause-goes_on g c start before is u given =
    let rules' = g.S.Verify.rules in
    let n = c.args.cell.now.namespace in
    let now = now_of rules' c.args.session.now c.args.pass.now before (g.K.Signer.left c.args.signer.now) (g.K.Signer.faults c.args.signer.now) in
    let few = subst (λ (n : ℕ). length c.args.piece.now ≤ n) (sym is.at_once) c.requires.piece.1 in
    let mid = g.L.Link.facts c.args.link.now in
    let new = progress_in rules' c.take_in.new.self in
    let said = c.take_in.new.out.items in
    let came = c.take_in.new.lists.rows.items in
    let f = piece_read_none now.progress.side new.side c.args.piece.now c.new-out.result.items said c.announce.new.self.rows.items came c.new-out.ensures.items (c.announce.ensures.rows ∙ c.new-came.ensures.rows) c.in-Ok-take_in.ensures.reads_piece in
    let signs = subst (λ (x : List ℕ → List ℕ → Bool). SignsTo x now.progress.side new.side c.args.piece.now) (sym is.gives_so) c.in-Ok-take_in.ensures.greets in
    let due = λ (signature : List ℕ) (made : new.side.signature ≡ Some signature). says_if_signed now.progress.side new.side.signature c.args.signer.now c.take_in.new.signer c.args.piece.now signature c.take_in.ensures.due made in
    let t = tally_as start.rules rules' start.namespace n start.pass u.rows c.args.pass.now c.args.session.now.tally is.by_rules is.in_namespace u.tally in
    let grew = grown_as rules' start.rules n start.namespace start.pass (u.rows ++ came) c.take_lists.new.pass (sym is.by_rules) (sym is.in_namespace) (c.in-Err-take_lists.ensures.takes start.pass u.rows t) in
    unkept start now u (g.L.Link.facts c.args.link.now) c.args.piece.now given (are_bytes c.args.piece.now c.type_inv.piece) c.requires.piece.0 few c.requires.open
    new said came (subst (λ (l : List RawValue). All IsRaw l) c.deref.ensures.value c.known_raws.ensures) f c.in-Ok-take_in.ensures.counts signs c.known_signature.ensures due
    (IsStill now.progress.side.signature c.args.signer.now c.take_in.new.signer) (asked_or_owes start now.progress u.bytes u.written u.rows u.reached c.args.signer.now c.take_in.new.signer c.args.piece.now c.take_in.new.self.signature c.take_in.ensures.due)
    c.take_lists.new.pass (g.K.Signer.faults c.take_in.new.signer) c.take_lists.ensures.later c.in-Ok-take_in.ensures.signing.counts grew

pub returns-in-Ok-write_all-clause-counted : goal.returns-in-Ok-write_all-clause-counted
returns-in-Ok-write_all-clause-counted g c =
    let old = (progress_in g.S.Verify.rules c.args.session.now.side).side in
    let new = (progress_in g.S.Verify.rules c.take_in.new.self).side in
    let f = piece_read_none old new c.args.piece.now c.new-out.result.items c.take_in.new.out.items c.announce.new.self.rows.items c.take_in.new.lists.rows.items c.new-out.ensures.items (c.announce.ensures.rows ∙ c.new-came.ensures.rows) c.in-Ok-take_in.ensures.reads_piece in
    record {
      few = omega (arith, came_few old new c.args.piece.now [] c.take_in.new.out.items c.take_in.new.lists.rows.items f, c.requires.counted.few, c.in-Some.ensures, c.in-Ok-take_lists.ensures.counts);
      sums = c.in-Ok-take_lists.ensures.sums;
      fits = omega (arith, c.in-Some.ensures);
    }

pub returns-in-Ok-write_all-clause-goes_on : goal.returns-in-Ok-write_all-clause-goes_on
returns-in-Ok-write_all-clause-goes_on g c start before is u given =
    let rules' = g.S.Verify.rules in
    let n = c.args.cell.now.namespace in
    let now = now_of rules' c.args.session.now c.args.pass.now before (g.K.Signer.left c.args.signer.now) (g.K.Signer.faults c.args.signer.now) in
    let few = subst (λ (n : ℕ). length c.args.piece.now ≤ n) (sym is.at_once) c.requires.piece.1 in
    let mid = g.L.Link.facts c.args.link.now in
    let new = progress_in rules' c.take_in.new.self in
    let said = c.take_in.new.out.items in
    let came = c.take_in.new.lists.rows.items in
    let f = piece_read_none now.progress.side new.side c.args.piece.now c.new-out.result.items said c.announce.new.self.rows.items came c.new-out.ensures.items (c.announce.ensures.rows ∙ c.new-came.ensures.rows) c.in-Ok-take_in.ensures.reads_piece in
    let signs = subst (λ (x : List ℕ → List ℕ → Bool). SignsTo x now.progress.side new.side c.args.piece.now) (sym is.gives_so) c.in-Ok-take_in.ensures.greets in
    let due = λ (signature : List ℕ) (made : new.side.signature ≡ Some signature). says_if_signed now.progress.side new.side.signature c.args.signer.now c.take_in.new.signer c.args.piece.now signature c.take_in.ensures.due made in
    let t = tally_as start.rules rules' start.namespace n start.pass u.rows c.args.pass.now c.args.session.now.tally is.by_rules is.in_namespace u.tally in
    let t' = tally_as rules' start.rules n start.namespace start.pass (u.rows ++ came) c.take_lists.new.pass c.take_lists.new.tally (sym is.by_rules) (sym is.in_namespace) (c.in-Ok-take_lists.ensures.takes start.pass u.rows t) in
    goes_on start now u (g.L.Link.facts c.args.link.now) c.args.piece.now given (are_bytes c.args.piece.now c.type_inv.piece) c.requires.piece.0 few c.requires.open
    new said came (subst (λ (l : List RawValue). All IsRaw l) c.deref.ensures.value c.known_raws.ensures) f c.in-Ok-take_in.ensures.counts signs c.known_signature.ensures due
    (IsStill now.progress.side.signature c.args.signer.now c.take_in.new.signer) (asked_or_owes start now.progress u.bytes u.written u.rows u.reached c.args.signer.now c.take_in.new.signer c.args.piece.now c.take_in.new.self.signature c.take_in.ensures.due)
    c.take_lists.new.pass (g.K.Signer.faults c.take_in.new.signer) c.take_lists.ensures.later c.in-Ok-take_in.ensures.signing.counts c.take_lists.new.tally t' (g.L.Link.facts c.write_all.new.link) c.write_all.ensures.rest
    c.in-Some.count (g.K.Signer.left c.take_in.new.signer) (omega (arith, c.in-Some.ensures)) (λ none. ((c.in-Ok-take_in.ensures.signing.asked.unasked none).0, ap g.K.Signer.left (c.in-Ok-take_in.ensures.signing.asked.unasked none).1))
    (subst (λ (l : List ℕ). Extends mid.held (g.L.Link.facts c.write_all.new.link).held l) c.deref-2.ensures.value c.in-Ok-write_all.ensures.held) c.in-Ok-write_all.ensures.counts

pub returns-clause-goes_on : goal.returns-clause-goes_on
returns-clause-goes_on g c start before is u given =
    let rules' = g.S.Verify.rules in
    let n = c.args.cell.now.namespace in
    let now = now_of rules' c.args.session.now c.args.pass.now before (g.K.Signer.left c.args.signer.now) (g.K.Signer.faults c.args.signer.now) in
    let few = subst (λ (n : ℕ). length c.args.piece.now ≤ n) (sym is.at_once) c.requires.piece.1 in
    let mid = g.L.Link.facts c.args.link.now in
    let new = progress_in rules' c.take_in.new.self in
    let said = c.take_in.new.out.items in
    let came = c.take_in.new.lists.rows.items in
    let f = piece_read_none now.progress.side new.side c.args.piece.now c.new-out.result.items said c.announce.new.self.rows.items came c.new-out.ensures.items (c.announce.ensures.rows ∙ c.new-came.ensures.rows) c.in-Ok-take_in.ensures.reads_piece in
    let signs = subst (λ (x : List ℕ → List ℕ → Bool). SignsTo x now.progress.side new.side c.args.piece.now) (sym is.gives_so) c.in-Ok-take_in.ensures.greets in
    let due = λ (signature : List ℕ) (made : new.side.signature ≡ Some signature). says_if_signed now.progress.side new.side.signature c.args.signer.now c.take_in.new.signer c.args.piece.now signature c.take_in.ensures.due made in
    let t = tally_as start.rules rules' start.namespace n start.pass u.rows c.args.pass.now c.args.session.now.tally is.by_rules is.in_namespace u.tally in
    let t' = tally_as rules' start.rules n start.namespace start.pass (u.rows ++ came) c.take_lists.new.pass c.take_lists.new.tally (sym is.by_rules) (sym is.in_namespace) (c.in-Ok-take_lists.ensures.takes start.pass u.rows t) in
    unsent_so start now u (g.L.Link.facts c.args.link.now) c.args.piece.now given (are_bytes c.args.piece.now c.type_inv.piece) c.requires.piece.0 few c.requires.open
    new said came (subst (λ (l : List RawValue). All IsRaw l) c.deref.ensures.value c.known_raws.ensures) f c.in-Ok-take_in.ensures.counts signs c.known_signature.ensures due
    (IsStill now.progress.side.signature c.args.signer.now c.take_in.new.signer) (asked_or_owes start now.progress u.bytes u.written u.rows u.reached c.args.signer.now c.take_in.new.signer c.args.piece.now c.take_in.new.self.signature c.take_in.ensures.due)
    c.take_lists.new.pass (g.K.Signer.faults c.take_in.new.signer) c.take_lists.ensures.later c.in-Ok-take_in.ensures.signing.counts c.take_lists.new.tally t' (g.L.Link.facts c.write_all.new.link) c.write_all.ensures.rest
    c.in-Err-write_all.end (subst (λ (l : List ℕ). (k : ℕ) × Extends mid.held (g.L.Link.facts c.write_all.new.link).held (take k l)) c.deref-2.ensures.value c.in-Err-write_all.ensures.held) c.in-Err-write_all.ensures.counts
