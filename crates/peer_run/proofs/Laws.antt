-- The laws of each command.
use Rattle.peer_stage.specs.Deed.{IsLawful}
use Rattle.peer_stage.specs.declared.outcome.Done.TheVariants as done
use Rattle.peer_stage.proofs.Owing.{StaysLocal, then_local, writes_local}
use Rattle.peer_rows.proofs.Deeds.{join_is_lawful, show_is_lawful, gen_is_lawful}
use Rattle.peer_rows.proofs.WatchDeeds.{watch_is_lawful, watches_local}
use Rattle.peer_make.proofs.Deeds.{key_is_lawful, grant_is_lawful, delegate_is_lawful, write_is_lawful}
use Rattle.peer_words.specs.declared.command.Command.{Command}
use Rattle.peer_words.specs.declared.command.Command.TheVariants as cmd
use Rattle.peer_run.specs.Deeds.{deed_of}
use Rattle.peer_run.specs.Hosting.{calling_words, serving_words}
use Rattle.peer_run.specs.Locals as locals
use Rattle.peer_run.proofs.PairDeeds.{drill_is_lawful, meet_is_lawful}
use Rattle.peer_run.proofs.HostEnds.{host_is_lawful}

-- One line a command.
pub laws_of : (c : Command) → IsLawful (deed_of c)
laws_of (cmd.Join namespace) = join_is_lawful namespace
laws_of (cmd.Show newest) = show_is_lawful newest
laws_of (cmd.Key name height) = key_is_lawful name height
laws_of (cmd.Grant namespace mode user key) = grant_is_lawful namespace mode user key
laws_of (cmd.Delegate key to area) = delegate_is_lawful key to area
laws_of (cmd.Write key path time payload_length digest subspace) = write_is_lawful key (record { path = path; time = time; payload_length = payload_length; digest = digest; subspace = subspace })
laws_of (cmd.Gen rows) = gen_is_lawful rows
laws_of (cmd.Drill rows) = drill_is_lawful rows
laws_of (cmd.Meet left right left_cap right_cap left_out right_out area newest bytes) =
    meet_is_lawful (record { left = left; right = right; left_cap = left_cap; right_cap = right_cap; left_out = left_out; right_out = right_out; area = area; limits = record { newest = newest; bytes = bytes } })
laws_of (cmd.Sync image cap key to area newest bytes follow) = host_is_lawful (calling_words image cap key to area (record { newest = newest; bytes = bytes }) follow)
laws_of (cmd.Serve image cap key at links area newest bytes follow log) = host_is_lawful (serving_words image cap key at links area (record { newest = newest; bytes = bytes }) follow log)
laws_of (cmd.Watch image area) = watch_is_lawful image area

-- One line a command: any but those that call others stays without sessions.
pub stays_local : (c : Command) → locals.IsLocal c → StaysLocal (deed_of c).meets
stays_local (cmd.Join namespace) is = then_local _ _ (λ x. writes_local x.0 (done.Joined x.1) tt)
stays_local (cmd.Show newest) is = then_local _ _ (λ x. writes_local x.0 (done.Shown x.1) tt)
stays_local (cmd.Key name height) is = then_local _ _ (λ free. then_local _ _ (λ k. then_local _ _ (λ put. writes_local _ done.Made tt)))
stays_local (cmd.Grant namespace mode user key) is = then_local _ _ (λ initial. then_local _ _ (λ valid. writes_local _ done.Made tt))
stays_local (cmd.Delegate key to area) is = then_local _ _ (λ c. then_local _ _ (λ asked. then_local _ _ (λ signature. then_local _ _ (λ valid. writes_local _ done.Made tt))))
stays_local (cmd.Write key path time payload_length digest subspace) is = then_local _ _ (λ c. then_local _ _ (λ signature. then_local _ _ (λ fine. writes_local _ done.Made tt)))
stays_local (cmd.Gen rows) is = writes_local _ done.Made tt
stays_local (cmd.Drill rows) is = writes_local _ done.Made tt
stays_local (cmd.Meet left right left_cap right_cap left_out right_out area newest bytes) is =
    then_local _ _ (λ s. then_local _ _ (λ agreed. then_local _ _ (λ met. then_local _ _ (λ one. then_local _ _ (λ other. writes_local met.transcript.items (done.Met met.counts) tt)))))
stays_local (cmd.Sync image grant key to area newest bytes follow) is = absurd is
stays_local (cmd.Serve image grant key at links area newest bytes follow log) is = absurd is
stays_local (cmd.Watch image area) is = watches_local image area
