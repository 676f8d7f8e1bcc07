-- Commands that call nobody and wait for nobody, those of them that make something, and the one that waits for others.
use Rattle.peer_words.specs.declared.command.Command.{Command}
use Rattle.peer_words.specs.declared.command.Command.TheVariants as cmd

-- any but `sync` and `serve`
abbrev pub IsLocal : Command → Type 0
IsLocal (cmd.Sync image cap key to area newest bytes follow) = ⊥
IsLocal (cmd.Serve image cap key at links area newest bytes follow log) = ⊥
IsLocal command = Unit {0}

-- those that make a key, a capability or a row
abbrev pub IsMaker : Command → Type 0
IsMaker (cmd.Key name height) = Unit {0}
IsMaker (cmd.Grant namespace mode user key) = Unit {0}
IsMaker (cmd.Delegate key to area) = Unit {0}
IsMaker (cmd.Write key path time length digest subspace) = Unit {0}
IsMaker command = ⊥

-- the one that waits for those who come
abbrev pub IsServer : Command → Type 0
IsServer (cmd.Serve image cap key at links area newest bytes follow log) = Unit {0}
IsServer command = ⊥
