-- What the bytes of a session are: a hello, a proof, or an item, each read by its grammar from left to right.
use Rattle.std.specs.Prelude.{ℕ, Bool, true, false, List, Option, option_map}
use Rattle.cap_codec.specs.Reading.{capability_at, signature_at}
use Rattle.mc_cap.specs.declared.capability.Capability.{Capability}
use Rattle.sync_msg.specs.Items.{ItemValue}
use Rattle.sync_msg.specs.ItemReading.{head_at, body_at}
use Rattle.sync_msg.specs.declared.item.Item.TheVariants.{Row}
use Rattle.sync_hello.specs.HelloForm.{Draft}
use Rattle.sync_hello.specs.HelloReading.{draft_at}
use Rattle.sync_hello.specs.declared.hello.Hello.{Hello}
use Rattle.session_rules.specs.Machine.{Seen}
use Rattle.row_intake.specs.Readers.{all_seen, all_read, judged_whole, row_spelled_as}

-- ---- hellos and proofs

-- the hello of a draft, whose bytes of a capability spell one
abbrev pub hello_with : Draft → Capability → Hello
hello_with draft capability = record { version = draft.version; nonce = draft.nonce; ask = draft.ask; capability = capability }

abbrev pub hello_drafted : Draft → Option Hello
hello_drafted draft = option_map (hello_with draft) (all_read (capability_at draft.text))

-- a hello: its capability is judged once all the bytes of that are there
unfoldable pub hello_seen : List ℕ → Seen Hello
hello_seen bytes = judged_whole hello_drafted (all_seen (draft_at bytes))

-- a proof: the field of a signature
unfoldable pub proof_seen : List ℕ → Seen (List ℕ)
proof_seen bytes = all_seen (signature_at bytes)

-- ---- items

-- the row that a body spells, an entry and a write token
abbrev pub row_spelled : List ℕ → Option ItemValue
row_spelled body = row_spelled_as Row body

-- a row in its frame: the body is judged once all of it is there
unfoldable pub row_seen : List ℕ → Seen ItemValue
row_seen bytes = judged_whole row_spelled (all_seen (body_at bytes))

-- an item of a version that is no row
unfoldable pub head_seen : ℕ → List ℕ → Seen ItemValue
head_seen version bytes = all_seen (head_at version bytes)

-- an item of a version: a row where rows are due, else any other
abbrev pub item_seen : ℕ → Bool → List ℕ → Seen ItemValue
item_seen version true bytes = row_seen bytes
item_seen version false bytes = head_seen version bytes
