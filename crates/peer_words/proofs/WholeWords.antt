-- The words of a command, from the parts that were read.
use Rattle.std.proofs.Common.{◌≡◌, ℕ, ◌≤◌, List, [], ◌∷◌, length, get_or, drop, Option, Some, Result, Ok, Err, String, sym, ap, ◌∙◌, arith, subst}
use Rattle.std.specs.String.{string_bytes}
use Rattle.std.specs.declared.alloc.Global.{Global}
use Rattle.spelling.specs.declared.ending.End.{End}
use Rattle.spelling.specs.declared.ending.End.TheVariants as ends
use Rattle.peer_words.specs.Commands.{verb_of, HasValues, IsOf, IsWords, ReadsWords}
use Rattle.peer_words.specs.Options.{Setting, IsSpelled}
use Rattle.peer_words.specs.Pairs.{settings_of}
use Rattle.peer_words.specs.Verbs.{verb_at, names_of}
use Rattle.peer_words.specs.Words.{texts, Reads}
use Rattle.peer_words.specs.declared.command.Command.{Command}
use Rattle.peer_words.specs.declared.command.Usage.{Usage}
use Rattle.peer_words.specs.declared.verb.Verb.{Verb}
use Rattle.peer_words.proofs.Pairs.{pairs_again}

-- words are the settings of one list
pub one_list : (names others words : List (List ℕ)) (a b : List Setting) → IsSpelled names words a → IsSpelled others words b → a ≡ b
one_list names others words a b is also = sym (pairs_again a) ∙ (ap settings_of (sym is.spelled ∙ also.spelled) ∙ pairs_again b)

texts_front : (words : List (String Global)) (word : String Global) → 1 ≤ length words → word ≡ get_or words 0 word → texts words ≡ string_bytes word ∷ texts (drop 1 words)
texts_front [] word some first = absurd (omega arith)
texts_front (w ∷ ws) word some first = ap (λ (s : String Global). string_bytes s ∷ texts ws) (sym first)

some_same : (o : Option Verb) (x y : Verb) → o ≡ Some x → o ≡ Some y → x ≡ y
some_same o x y p q = cc

same_word : (x y : List ℕ) (xs ys : List (List ℕ)) → x ∷ xs ≡ y ∷ ys → x ≡ y
same_word x y xs ys same = cc

same_others : (x y : List ℕ) (xs ys : List (List ℕ)) → x ∷ xs ≡ y ∷ ys → xs ≡ ys
same_others x y xs ys same = cc

-- a command that the words spell is of the verb, with the options
pub is_of : (words : List (List ℕ)) (word : List ℕ) (others : List (List ℕ)) (verb : Verb) (options : List Setting) (command : Command) → words ≡ word ∷ others
    → verb_at word ≡ Some verb → IsSpelled (names_of verb) others options → IsWords words command → IsOf verb options command
is_of words word others verb options command front named spelled is =
    let same = sym is.spelled ∙ front in
    let verbs : verb_of command ≡ verb = some_same (verb_at word) (verb_of command) verb (ap verb_at (sym (same_word is.word word is.others others same)) ∙ is.named) named in
    let there : IsSpelled (names_of (verb_of command)) others is.settings = subst (λ (ws : List (List ℕ)). IsSpelled (names_of (verb_of command)) ws is.settings) (same_others is.word word is.others others same) is.options in
    (verbs, subst (λ (settings : List Setting). HasValues settings command) (one_list (names_of (verb_of command)) (names_of verb) others is.settings options there spelled) is.values)

from_parts : (words : List (List ℕ)) (word : List ℕ) (others : List (List ℕ)) (verb : Verb) (options : List Setting) (result : Result Command (End Usage)) → words ≡ word ∷ others
    → verb_at word ≡ Some verb → IsSpelled (names_of verb) others options → Reads (IsOf verb options) result → ReadsWords words result
from_parts words word others verb options (Ok command) front named spelled is = record {
  word = word;
  others = others;
  settings = options;
  spelled = front;
  named = named ∙ ap Some (sym is.0);
  options = subst (λ (v : Verb). IsSpelled (names_of v) others options) (sym is.0) spelled;
  values = is.1;
}
from_parts words word others verb options (Err (ends.Refused e)) front named spelled none = λ command is. none command (is_of words word others verb options command front named spelled is)
from_parts words word others verb options (Err ends.NoMemory) front named spelled none = tt

pub words_read : (words : List (String Global)) (word : String Global) (others : List (String Global)) (verb : Verb) (options : List Setting) (result : Result Command (End Usage))
    → 1 ≤ length words → word ≡ get_or words 0 word → others ≡ drop 1 words → verb_at (string_bytes word) ≡ Some verb → IsSpelled (names_of verb) (texts others) options
    → Reads (IsOf verb options) result → ReadsWords (texts words) result
words_read words word others verb options result some first behind named spelled reads =
    from_parts (texts words) (string_bytes word) (texts others) verb options result (texts_front words word some first ∙ ap (λ (ws : List (String Global)). string_bytes word ∷ texts ws) (sym behind)) named spelled reads
