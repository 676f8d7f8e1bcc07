use Rattle.std.proofs.Common.{refl}
use Rattle.peer_run.proofs.FiledBays.{closed_host, hosts_out}
use Rattle.peer_run.proofs.GotImages.{untold}
use Rattle.peer_run.proofs.sessions.host.Goals as goal

pub close_file-requires : goal.close_file-requires
close_file-requires g c = record { out = hosts_out c.args.words _ _ _ c.host_links-end.result (c.host_links-end.ensures untold) }

pub returns : goal.returns
returns g c = λ others. closed_host c.args.words _ _ _ _ c.host_links-end.result c.close_file.result (c.host_links-end.ensures others) c.close_file.ensures.end c.close_file.ensures.back refl
