use Rattle.sync_follow.proofs.Feeds.{feeds_are_read, whole_feeds_are_feeds}
use Rattle.sync_follow.proofs.laws.reads_feeds.Goals as goal

pub returns-clause-read : goal.returns-clause-read
returns-clause-read c = feeds_are_read

pub returns-clause-whole : goal.returns-clause-whole
returns-clause-whole c = whole_feeds_are_feeds
