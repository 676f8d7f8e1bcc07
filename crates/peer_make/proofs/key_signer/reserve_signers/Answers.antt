use Rattle.peer_words.specs.declared.command.SignerWord.TheVariants.{LmsFile}
use Rattle.peer_make.proofs.Many.{as_many, none_signed}
use Rattle.peer_make.proofs.key_signer.reserve_signers.Goals as goal

pub returns-in_ok-once_each-in-LmsFile-clause-many : goal.returns-in_ok-once_each-in-LmsFile-clause-many
returns-in_ok-once_each-in-LmsFile-clause-many g c =
    as_many (LmsFile c.in-LmsFile.name) c.args.count (g.H.Shelf.facts c.args.shelf.now) (g.H.Shelf.facts c.take_uses.new.shelf) c.in_ok-once_each-in-LmsFile.field-0.items
    (c.in_ok-uses-in-LmsFile.uses.items, c.in_ok-once_each-in-LmsFile.ensures, c.in_ok-uses-in-LmsFile.ensures.hands)

pub returns-in_ok-once_each-in-LmsFile-clause-left : goal.returns-in_ok-once_each-in-LmsFile-clause-left
returns-in_ok-once_each-in-LmsFile-clause-left g c =
    none_signed (LmsFile c.in-LmsFile.name) c.args.count (g.H.Shelf.facts c.args.shelf.now) (g.H.Shelf.facts c.take_uses.new.shelf) c.in_ok-once_each-in-LmsFile.field-0.items
    (c.in_ok-uses-in-LmsFile.uses.items, c.in_ok-once_each-in-LmsFile.ensures, c.in_ok-uses-in-LmsFile.ensures.hands)
