use Rattle.sha_lanes.proofs.OfWindows.{AreHashed-flag, AreHashed-keeps}
use Rattle.sha_lanes.proofs.messages.hash_first.Goals as goal

pub returns-clause-held : goal.returns-clause-held
returns-clause-held c =
    let messages = c.args.messages.now in
    let digests = c.hash_beside.new.digests in
    let first = c.args.first in
    let made = c.hash_beside.ensures in
    let places = c.beside.ensures in
    let held = AreHashed-keeps messages _ digests c.args.hashed.now first made.long made.keeps c.requires.held in
    AreHashed-flag messages digests _ first _ places.fourth made.fourth
    (AreHashed-flag messages digests _ first _ places.third made.third
    (AreHashed-flag messages digests _ first _ places.second made.second held))
