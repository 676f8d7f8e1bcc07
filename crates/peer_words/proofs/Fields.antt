-- A command of a given word has the fields of that command.
use Rattle.std.proofs.Common.{ℕ, List, Option, codes, String}
use Rattle.std.specs.Prelude.{Bool}
use Rattle.std.specs.declared.alloc.Global.{Global}
use Rattle.lms_core.specs.declared.height.Height.{Height}
use Rattle.mc_cap.specs.declared.capability.Mode.{Mode}
use Rattle.willow_path.specs.declared.key.Digest.{Digest}
use Rattle.peer_words.specs.Commands.{IsOf, HasKey, HasGrant, HasDelegate, HasWrite, HasMeet, HasSync, HasServe, HasWatch}
use Rattle.peer_words.specs.Options.{Setting, IsSetTo, MayBeSet}
use Rattle.peer_words.specs.Values.{IsKeyWord, IsCount}
use Rattle.peer_words.specs.declared.command.AreaWords.{AreaWords}
use Rattle.peer_words.specs.declared.command.Command.{Command}
use Rattle.peer_words.specs.declared.command.Command.TheVariants as cmd
use Rattle.peer_words.specs.declared.command.SignerWord.{SignerWord}
use Rattle.peer_words.specs.declared.verb.Verb.TheVariants as verbs

pub of_join : (P : Command → Type 0) (settings : List Setting) (command : Command) → IsOf verbs.Join settings command → ((namespace : List ℕ) → IsSetTo IsKeyWord settings (codes "--namespace") namespace → P (cmd.Join namespace)) → P command
of_join P settings (cmd.Join namespace) is found = found namespace is.1
of_join P settings command is found = absurd (cc is.0)

pub of_show : (P : Command → Type 0) (settings : List Setting) (command : Command) → IsOf verbs.Show settings command → ((newest : Option ℕ) → MayBeSet IsCount settings (codes "--newest") newest → P (cmd.Show newest)) → P command
of_show P settings (cmd.Show newest) is found = found newest is.1
of_show P settings command is found = absurd (cc is.0)

pub of_key : (P : Command → Type 0) (settings : List Setting) (command : Command) → IsOf verbs.Key settings command → ((name : String Global) (height : Height) → HasKey settings name height → P (cmd.Key name height)) → P command
of_key P settings (cmd.Key name height) is found = found name height is.1
of_key P settings command is found = absurd (cc is.0)

pub of_grant : (P : Command → Type 0) (settings : List Setting) (command : Command) → IsOf verbs.Grant settings command → ((namespace : List ℕ) (mode : Mode) (user : List ℕ) (key : Option SignerWord) → HasGrant settings namespace mode user key → P (cmd.Grant namespace mode user key)) → P command
of_grant P settings (cmd.Grant namespace mode user key) is found = found namespace mode user key is.1
of_grant P settings command is found = absurd (cc is.0)

pub of_delegate : (P : Command → Type 0) (settings : List Setting) (command : Command) → IsOf verbs.Delegate settings command → ((key : SignerWord) (to : List ℕ) (area : AreaWords) → HasDelegate settings key to area → P (cmd.Delegate key to area)) → P command
of_delegate P settings (cmd.Delegate key to area) is found = found key to area is.1
of_delegate P settings command is found = absurd (cc is.0)

pub of_write : (P : Command → Type 0) (settings : List Setting) (command : Command) → IsOf verbs.Write settings command → ((key : SignerWord) (path : List (List ℕ)) (time : ℕ) (length : ℕ) (digest : Digest) (subspace : Option (List ℕ)) → HasWrite settings key path time length digest subspace → P (cmd.Write key path time length digest subspace)) → P command
of_write P settings (cmd.Write key path time length digest subspace) is found = found key path time length digest subspace is.1
of_write P settings command is found = absurd (cc is.0)

pub of_generate : (P : Command → Type 0) (settings : List Setting) (command : Command) → IsOf verbs.Gen settings command → ((rows : ℕ) → IsSetTo IsCount settings (codes "--rows") rows → P (cmd.Gen rows)) → P command
of_generate P settings (cmd.Gen rows) is found = found rows is.1
of_generate P settings command is found = absurd (cc is.0)

pub of_drill : (P : Command → Type 0) (settings : List Setting) (command : Command) → IsOf verbs.Drill settings command → ((rows : ℕ) → IsSetTo IsCount settings (codes "--rows") rows → P (cmd.Drill rows)) → P command
of_drill P settings (cmd.Drill rows) is found = found rows is.1
of_drill P settings command is found = absurd (cc is.0)

pub of_meet : (P : Command → Type 0) (settings : List Setting) (command : Command) → IsOf verbs.Meet settings command → ((left : String Global) (right : String Global) (left_cap : String Global) (right_cap : String Global) (left_out : String Global) (right_out : String Global) (area : AreaWords) (newest bytes : Option ℕ) → HasMeet settings left right left_cap right_cap left_out right_out area newest bytes → P (cmd.Meet left right left_cap right_cap left_out right_out area newest bytes)) → P command
of_meet P settings (cmd.Meet left right left_cap right_cap left_out right_out area newest bytes) is found = found left right left_cap right_cap left_out right_out area newest bytes is.1
of_meet P settings command is found = absurd (cc is.0)

pub of_sync : (P : Command → Type 0) (settings : List Setting) (command : Command) → IsOf verbs.Sync settings command → ((image : String Global) (cap : String Global) (key : SignerWord) (to : String Global) (area : AreaWords) (newest bytes : Option ℕ) (follow : Bool) → HasSync settings image cap key to area newest bytes follow → P (cmd.Sync image cap key to area newest bytes follow)) → P command
of_sync P settings (cmd.Sync image cap key to area newest bytes follow) is found = found image cap key to area newest bytes follow is.1
of_sync P settings command is found = absurd (cc is.0)

pub of_serve : (P : Command → Type 0) (settings : List Setting) (command : Command) → IsOf verbs.Serve settings command → ((image : String Global) (cap : String Global) (key : SignerWord) (at : String Global) (links : ℕ) (area : AreaWords) (newest bytes : Option ℕ) (follow : Bool) (log : Option (String Global)) → HasServe settings image cap key at links area newest bytes follow log → P (cmd.Serve image cap key at links area newest bytes follow log)) → P command
of_serve P settings (cmd.Serve image cap key at links area newest bytes follow log) is found = found image cap key at links area newest bytes follow log is.1
of_serve P settings command is found = absurd (cc is.0)

pub of_watch : (P : Command → Type 0) (settings : List Setting) (command : Command) → IsOf verbs.Watch settings command → ((image : String Global) (area : AreaWords) → HasWatch settings image area → P (cmd.Watch image area)) → P command
of_watch P settings (cmd.Watch image area) is found = found image area is.1
of_watch P settings command is found = absurd (cc is.0)
