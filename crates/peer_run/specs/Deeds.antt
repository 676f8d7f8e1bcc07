-- The deed of each command.
use Rattle.peer_stage.specs.Deed.{Deed}
use Rattle.peer_rows.specs.Deeds.{join_deed, show_deed, gen_deed, watch_deed}
use Rattle.peer_make.specs.Deeds.{key_deed, grant_deed, delegate_deed, write_deed}
use Rattle.peer_run.specs.PairDeeds.{drill_deed, meet_deed}
use Rattle.peer_run.specs.HostDeed.{host_deed}
use Rattle.peer_run.specs.Hosting.{calling_words, serving_words}
use Rattle.peer_words.specs.declared.command.Command.{Command}
use Rattle.peer_words.specs.declared.command.Command.TheVariants as cmd

-- One line a command.
abbrev pub deed_of : Command → Deed
deed_of (cmd.Join namespace) = join_deed namespace
deed_of (cmd.Show newest) = show_deed newest
deed_of (cmd.Key name height) = key_deed name height
deed_of (cmd.Grant namespace mode user key) = grant_deed namespace mode user key
deed_of (cmd.Delegate key to area) = delegate_deed key to area
deed_of (cmd.Write key path time payload_length digest subspace) = write_deed key (record { path = path; time = time; payload_length = payload_length; digest = digest; subspace = subspace })
deed_of (cmd.Gen rows) = gen_deed rows
deed_of (cmd.Drill rows) = drill_deed rows
deed_of (cmd.Meet left right left_cap right_cap left_out right_out area newest bytes) =
    meet_deed (record { left = left; right = right; left_cap = left_cap; right_cap = right_cap; left_out = left_out; right_out = right_out; area = area; limits = record { newest = newest; bytes = bytes } })
deed_of (cmd.Sync image cap key to area newest bytes follow) = host_deed (calling_words image cap key to area (record { newest = newest; bytes = bytes }) follow)
deed_of (cmd.Serve image cap key at links area newest bytes follow log) = host_deed (serving_words image cap key at links area (record { newest = newest; bytes = bytes }) follow log)
deed_of (cmd.Watch image area) = watch_deed image area
