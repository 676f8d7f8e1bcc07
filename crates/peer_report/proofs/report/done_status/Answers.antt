use Rattle.peer_report.proofs.Statuses.{joined_status, shown_status, met_status, watched_status, hosted_told, stopped_status, made_status}
use Rattle.peer_report.proofs.report.done_status.Goals as goal

pub returns-in-Joined : goal.returns-in-Joined
returns-in-Joined c = joined_status c.args.done.now c.in-Joined.counts c.refused_status.result c.in-Joined.is c.refused_status.ensures

pub returns-in-Shown : goal.returns-in-Shown
returns-in-Shown c = shown_status c.args.done.now c.in-Shown.counts c.refused_status-in-Shown.result c.in-Shown.is c.refused_status-in-Shown.ensures

pub returns-in-Met : goal.returns-in-Met
returns-in-Met c = met_status c.args.done.now c.in-Met.counts c.first_status.result c.in-Met.is c.first_status.ensures

pub returns-in-Made : goal.returns-in-Made
returns-in-Made c = made_status c.args.done.now c.in-Made.is

pub returns-in-Hosted : goal.returns-in-Hosted
returns-in-Hosted c = hosted_told c.args.done.now c.in-Hosted.hosted c.hosted_status.result c.in-Hosted.is c.hosted_status.ensures

pub returns-in-Watched : goal.returns-in-Watched
returns-in-Watched c = watched_status c.args.done.now c.in-Watched.counts c.first_status-in-Watched.result c.in-Watched.is c.first_status-in-Watched.ensures

pub returns-in-Stopped : goal.returns-in-Stopped
returns-in-Stopped c = stopped_status c.args.done.now c.in-Stopped.stopped c.stop_status.result c.in-Stopped.is c.stop_status.ensures
