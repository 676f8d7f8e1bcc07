-- Commands with the same fields. Texts are compared by their bytes.
use Rattle.std.specs.Prelude.{◌≡◌, Option, Some, None, String}
use Rattle.std.specs.String.{string_bytes}
use Rattle.std.specs.declared.alloc.Global.{Global}
use Rattle.peer_words.specs.declared.command.Command.{Command}
use Rattle.peer_words.specs.declared.command.Command.TheVariants as cmd
use Rattle.peer_words.specs.declared.command.SignerWord.{SignerWord}
use Rattle.peer_words.specs.declared.command.SignerWord.TheVariants.{OpenKey, LmsFile}

abbrev pub AreSameText : String Global → String Global → Type 0
AreSameText a b = string_bytes a ≡ string_bytes b

-- the same key, or the same name of a file
abbrev pub AreSameSigner : SignerWord → SignerWord → Type 0
AreSameSigner (OpenKey a) (OpenKey b) = a ≡ b
AreSameSigner (LmsFile a) (LmsFile b) = AreSameText a b
AreSameSigner (OpenKey a) (LmsFile b) = ⊥
AreSameSigner (LmsFile a) (OpenKey b) = ⊥

-- the same signer, or none twice
abbrev pub AreSameIfAny : Option SignerWord → Option SignerWord → Type 0
AreSameIfAny None None = Unit {0}
AreSameIfAny (Some a) (Some b) = AreSameSigner a b
AreSameIfAny None (Some b) = ⊥
AreSameIfAny (Some a) None = ⊥

-- the same text, or none twice
abbrev pub AreSameTextIfAny : Option (String Global) → Option (String Global) → Type 0
AreSameTextIfAny None None = Unit {0}
AreSameTextIfAny (Some a) (Some b) = AreSameText a b
AreSameTextIfAny None (Some b) = ⊥
AreSameTextIfAny (Some a) None = ⊥

-- the same command, with the same fields
abbrev pub AreAlike : Command → Command → Type 0
AreAlike (cmd.Join a) (cmd.Join b) = a ≡ b
AreAlike (cmd.Show a) (cmd.Show b) = a ≡ b
AreAlike (cmd.Key a h) (cmd.Key b i) = AreSameText a b × (h ≡ i)
AreAlike (cmd.Grant a m u k) (cmd.Grant b n v l) = (a ≡ b) × (m ≡ n) × (u ≡ v) × AreSameIfAny k l
AreAlike (cmd.Delegate k u a) (cmd.Delegate l v b) = AreSameSigner k l × (u ≡ v) × (a ≡ b)
AreAlike (cmd.Write k p t n d s) (cmd.Write l q u m e r) = AreSameSigner k l × (p ≡ q) × (t ≡ u) × (n ≡ m) × (d ≡ e) × (s ≡ r)
AreAlike (cmd.Gen a) (cmd.Gen b) = a ≡ b
AreAlike (cmd.Drill a) (cmd.Drill b) = a ≡ b
AreAlike (cmd.Meet a b c d e f g n o) (cmd.Meet h i j k l m p q r) =
    AreSameText a h × AreSameText b i × AreSameText c j × AreSameText d k × AreSameText e l × AreSameText f m × (g ≡ p) × (n ≡ q) × (o ≡ r)
AreAlike (cmd.Sync a b c d e n o s) (cmd.Sync f g h i j q r t) =
    AreSameText a f × AreSameText b g × AreSameSigner c h × AreSameText d i × (e ≡ j) × (n ≡ q) × (o ≡ r) × (s ≡ t)
AreAlike (cmd.Serve a b c d e f n o s u) (cmd.Serve g h i j k l q r t v) =
    AreSameText a g × AreSameText b h × AreSameSigner c i × AreSameText d j × (e ≡ k) × (f ≡ l) × (n ≡ q) × (o ≡ r) × (s ≡ t) × AreSameTextIfAny u v
AreAlike (cmd.Watch a b) (cmd.Watch c d) = AreSameText a c × (b ≡ d)
AreAlike one other = ⊥
