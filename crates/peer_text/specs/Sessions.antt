-- The texts of how sessions end.
use Rattle.std.specs.Prelude.{ℕ, List, ◌++◌, codes, decimal}
use Rattle.session_end.specs.declared.end.SessionEnd.{SessionEnd}
use Rattle.session_end.specs.declared.end.SessionEnd.TheVariants as ending
use Rattle.session_end.specs.declared.refusal.HelloRefusal.{HelloRefusal}
use Rattle.session_end.specs.declared.refusal.HelloRefusal.TheVariants as hello
use Rattle.sync_msg.specs.declared.refusal.CoreRefusal.{CoreRefusal}
use Rattle.sync_msg.specs.declared.refusal.CoreRefusal.TheVariants as core
use Rattle.peer_text.specs.Refusals.{chain_refusal_text}

-- why a hello or a proof is refused: the name, and the text of the capability's refusal where there is one
abbrev pub hello_refusal_text : HelloRefusal → List ℕ
hello_refusal_text hello.VersionUnknown = codes "VersionUnknown"
hello_refusal_text hello.WrongNamespace = codes "WrongNamespace"
hello_refusal_text hello.NotRead = codes "NotRead"
hello_refusal_text (hello.Chain refusal) = codes "Chain " ++ chain_refusal_text refusal
hello_refusal_text hello.AskOutsideGrant = codes "AskOutsideGrant"
hello_refusal_text hello.BadProof = codes "BadProof"

-- why an item is refused
abbrev pub core_refusal_text : CoreRefusal → List ℕ
core_refusal_text core.BadCut = codes "BadCut"
core_refusal_text core.ItemMismatch = codes "ItemMismatch"
core_refusal_text core.EntryOutside = codes "EntryOutside"
core_refusal_text core.RowsOutOfOrder = codes "RowsOutOfOrder"
core_refusal_text (core.TooManyItems items) = codes "TooManyItems"

-- a session was refused, and why
abbrev pub session_refused : List ℕ → List ℕ
session_refused why = codes "session refused: " ++ why

-- how a session ended: as a command would that met the same, or refused
abbrev pub session_end_text : SessionEnd → List ℕ
session_end_text ending.LinkRead = codes "read fault"
session_end_text ending.LinkWrite = codes "write fault"
session_end_text (ending.LogFull missed) = codes "log full"
session_end_text ending.NoMemory = codes "no memory"
session_end_text (ending.ClosedEarly at) = session_refused (codes "ClosedEarly " ++ decimal at)
session_end_text (ending.BadMessage at) = session_refused (codes "BadMessage " ++ decimal at)
session_end_text (ending.Hello refusal) = session_refused (hello_refusal_text refusal)
session_end_text (ending.Core refusal) = session_refused (core_refusal_text refusal)
session_end_text ending.SignFault = session_refused (codes "SignFault")
