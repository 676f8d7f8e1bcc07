-- Bytes are lines in one way.
use Rattle.std.proofs.Common.{◌≡◌, ◌≢◌, ℕ, ◌<◌, ◌≤◌, ◌+◌, ◌-◌, ◌⊎◌, inl, inr, List, [], ◌∷◌, ◌++◌, length, refl, sym, ap, subst, ◌∙◌, arith, length-append}
use Rattle.std.specs.Prelude.{All}
use Rattle.std.proofs.lemmas.List.Elements.{All-nil, All-cons}
use Rattle.mesh_lines.specs.Cuts.{Lacks, IsCut}
use Rattle.mesh_lines.specs.Lines.{IsFirstLine, IsLine}
use Rattle.mesh_lines.specs.Text.{HasLines, HasFront, IsMesh, IsWrongMesh, IsWrongBehind, LacksFirst, LacksLine}
use Rattle.mesh_lines.specs.Named.{NamesAmong}
use Rattle.mesh_lines.specs.declared.line.MeshLine.{MeshLine}
use Rattle.mesh_lines.specs.declared.line.MeshLine.TheVariants.{Offer, Meet, Same}
use Rattle.mesh_lines.specs.declared.line.TheConstants.{MOST_NODES}
use Rattle.mesh_lines.proofs.Cuts.{one_cut, no_cut}
use Rattle.mesh_lines.proofs.Lines.{one_line, one_first, line_lacks, first_lacks}

-- ---- what is read

-- no line ends where there is no newline
pub no_end : (nodes : ℕ) (bytes : List ℕ) → Lacks 10 bytes → LacksLine nodes bytes
no_end nodes bytes lacks = λ line others l whole is. no_cut 10 line others (subst (λ (b : List ℕ). Lacks 10 b) whole lacks)

pub no_first_end : (bytes : List ℕ) → Lacks 10 bytes → LacksFirst bytes
no_first_end bytes lacks = λ line others nodes whole is. no_cut 10 line others (subst (λ (b : List ℕ). Lacks 10 b) whole lacks)

-- what stands in front of the first newline is a line, or none stands in front
pub no_line : (nodes : ℕ) (bytes front rest : List ℕ) → IsCut 10 bytes front rest → ((l : MeshLine) → IsLine nodes front l → ⊥) → LacksLine nodes bytes
no_line nodes bytes front rest cut none = λ line others l whole is.
    let same = one_cut 10 front line rest others (sym cut.whole ∙ whole) cut.first (line_lacks nodes line l is) in
    none l (subst (λ (w : List ℕ). IsLine nodes w l) (sym same.0) is)

pub no_first : (bytes front rest : List ℕ) → IsCut 10 bytes front rest → ((n : ℕ) → IsFirstLine front n → ⊥) → LacksFirst bytes
no_first bytes front rest cut none = λ line others n whole is.
    let same = one_cut 10 front line rest others (sym cut.whole ∙ whole) cut.first (first_lacks line n is) in
    none n (subst (λ (w : List ℕ). IsFirstLine w n) (sym same.0) is)

-- one line more
more_lines : (nodes : ℕ) (bytes : List ℕ) (ls : List MeshLine) (left line others : List ℕ) (l : MeshLine) → HasLines nodes bytes ls left → left ≡ line ++ 10 ∷ others → IsLine nodes line l
    → HasLines nodes bytes (ls ++ l ∷ []) others
more_lines nodes bytes [] left line others l has whole is = (line, others, has ∙ whole, is, refl)
more_lines nodes bytes (k ∷ ks) left line others l has whole is = (has.0, has.1, has.2, has.3, more_lines nodes has.1 ks left line others l has.4 whole is)

pub goes_on : (bytes : List ℕ) (nodes : ℕ) (ls : List MeshLine) (left line others : List ℕ) (l : MeshLine) → HasFront bytes nodes ls left → IsCut 10 left line others → IsLine nodes line l
    → HasFront bytes nodes (ls ++ l ∷ []) others
goes_on bytes nodes ls left line others l front cut is = record {
  first = front.first;
  others = front.others;
  whole = front.whole;
  is_first = front.is_first;
  has_lines = more_lines nodes front.others ls left line others l front.has_lines cut.whole is;
}

pub begun : (bytes first others : List ℕ) (nodes : ℕ) → IsCut 10 bytes first others → IsFirstLine first nodes → HasFront bytes nodes [] others
begun bytes first others nodes cut is = record { first = first; others = others; whole = cut.whole; is_first = is; has_lines = refl }

pub shorter : (bytes line others : List ℕ) → IsCut 10 bytes line others → length others + 1 ≤ length bytes
shorter bytes line others cut = omega (arith, ap length cut.whole, length-append line (10 ∷ others))

-- ---- how the reading ends

pub cut_short : (bytes : List ℕ) → Lacks 10 bytes → IsWrongMesh bytes 0
cut_short bytes lacks = inl (refl, no_first_end bytes lacks)

pub wrong_first : (bytes front rest : List ℕ) → IsCut 10 bytes front rest → ((n : ℕ) → IsFirstLine front n → ⊥) → IsWrongMesh bytes 0
wrong_first bytes front rest cut none = inl (refl, no_first bytes front rest cut none)

-- a line behind others is wrong, where it begins
pub wrong_at : (bytes : List ℕ) (nodes : ℕ) (lines : List MeshLine) (left : List ℕ) (at : ℕ) → HasFront bytes nodes lines left → length left ≤ length bytes → 0 < length left → at ≡ length bytes - length left
    → LacksLine nodes left → IsWrongMesh bytes at
wrong_at bytes nodes lines left at front few some place wrong = inr (
  nodes,
  lines,
  left,
  record {
    front = front;
    more = λ none. omega (arith, some, ap length none);
    wrong = wrong;
    place = omega (arith, few, place);
  },
)

pub one_more : (bytes : List ℕ) (nodes : ℕ) (lines now : List MeshLine) (left line others : List ℕ) (l : MeshLine) → HasFront bytes nodes lines left → IsCut 10 left line others → IsLine nodes line l → now ≡ lines ++ l ∷ []
    → HasFront bytes nodes now others
one_more bytes nodes lines now left line others l front cut is more =
    subst (λ (ls : List MeshLine). HasFront bytes nodes ls others) (sym more) (goes_on bytes nodes lines left line others l front cut is)

pub all_read : (bytes : List ℕ) (nodes : ℕ) (lines : List MeshLine) (left : List ℕ) → HasFront bytes nodes lines left → length left ≡ 0 → IsMesh bytes nodes lines
all_read bytes nodes lines [] front none = front
all_read bytes nodes lines (c ∷ left) front none = absurd (omega (arith, none))

-- ---- one reading

not_nothing : (line others : List ℕ) → [] ≡ line ++ 10 ∷ others → ⊥
not_nothing [] others whole = absurd cc
not_nothing (c ∷ line) others whole = absurd cc

pub none_left : (nodes : ℕ) → LacksLine nodes []
none_left nodes = λ line others l whole is. not_nothing line others whole

one_way : (nodes : ℕ) (bytes : List ℕ) (ks ls : List MeshLine) (r s : List ℕ) → HasLines nodes bytes ks r → HasLines nodes bytes ls s → LacksLine nodes r → LacksLine nodes s → (ks ≡ ls) × (r ≡ s)
one_way nodes bytes [] [] r s p q none never = (refl, sym p ∙ q)
one_way nodes bytes [] (l ∷ ls) r s p q none never = absurd (none q.0 q.1 l (sym p ∙ q.2) q.3)
one_way nodes bytes (k ∷ ks) [] r s p q none never = absurd (never p.0 p.1 k (sym q ∙ p.2) p.3)
one_way nodes bytes (k ∷ ks) (l ∷ ls) r s p q none never =
    let same = one_cut 10 p.0 q.0 p.1 q.1 (sym p.2 ∙ q.2) (line_lacks nodes p.0 k p.3) (line_lacks nodes q.0 l q.3) in
    let heads = one_line nodes p.0 k l p.3 (subst (λ (w : List ℕ). IsLine nodes w l) (sym same.0) q.3) in
    let others = one_way nodes p.1 ks ls r s p.4 (subst (λ (b : List ℕ). HasLines nodes b ls s) (sym same.1) q.4) none never in
    (ap (λ (l : MeshLine). l ∷ ks) heads ∙ ap (λ (t : List MeshLine). l ∷ t) others.0, others.1)

pub one_front : (bytes : List ℕ) (n m : ℕ) (ks ls : List MeshLine) (r s : List ℕ) → HasFront bytes n ks r → HasFront bytes m ls s → LacksLine n r → LacksLine m s → (n ≡ m) × (ks ≡ ls) × (r ≡ s)
one_front bytes n m ks ls r s p q none never =
    let same = one_cut 10 p.first q.first p.others q.others (sym p.whole ∙ q.whole) (first_lacks p.first n p.is_first) (first_lacks q.first m q.is_first) in
    let numbers = one_first p.first n m p.is_first (subst (λ (w : List ℕ). IsFirstLine w m) (sym same.0) q.is_first) in
    let there : HasLines n p.others ls s = subst (λ (k : ℕ). HasLines k p.others ls s) (sym numbers) (subst (λ (b : List ℕ). HasLines m b ls s) (sym same.1) q.has_lines) in
    let ways = one_way n p.others ks ls r s p.has_lines there none (subst (λ (k : ℕ). LacksLine k s) (sym numbers) never) in
    (numbers, ways.0, ways.1)

pub one_mesh : (bytes : List ℕ) (n m : ℕ) (ks ls : List MeshLine) → IsMesh bytes n ks → IsMesh bytes m ls → (n ≡ m) × (ks ≡ ls)
one_mesh bytes n m ks ls p q =
    let same = one_front bytes n m ks ls [] [] p q (none_left n) (none_left m) in
    (same.0, same.1)

no_first_line : (bytes : List ℕ) (n : ℕ) (ks : List MeshLine) (r : List ℕ) → LacksFirst bytes → HasFront bytes n ks r → ⊥
no_first_line bytes n ks r none p = none p.first p.others n p.whole p.is_first

pub never_both : (bytes : List ℕ) (nodes : ℕ) (lines : List MeshLine) (at : ℕ) → IsMesh bytes nodes lines → IsWrongMesh bytes at → ⊥
never_both bytes nodes lines at is (inl wrong) = no_first_line bytes nodes lines [] wrong.1 is
never_both bytes nodes lines at is (inr (m, ls, rest, wrong)) =
    let same = one_front bytes nodes m lines ls [] rest is wrong.front (none_left nodes) wrong.wrong in
    wrong.more (sym same.2)

pub one_place : (bytes : List ℕ) (a b : ℕ) → IsWrongMesh bytes a → IsWrongMesh bytes b → a ≡ b
one_place bytes a b (inl p) (inl q) = p.0 ∙ sym q.0
one_place bytes a b (inl p) (inr (m, ls, rest, q)) = absurd (no_first_line bytes m ls rest p.1 q.front)
one_place bytes a b (inr (m, ls, rest, p)) (inl q) = absurd (no_first_line bytes m ls rest q.1 p.front)
one_place bytes a b (inr (n, ks, r, p)) (inr (m, ls, s, q)) =
    let same = one_front bytes n m ks ls r s p.front q.front p.wrong q.wrong in
    omega (arith, p.place, q.place, ap length same.2)

-- ---- what lines name

line_within : (nodes : ℕ) (line : List ℕ) (l : MeshLine) → IsLine nodes line l → NamesAmong nodes l
line_within nodes line (Offer node row) is = (is.2.is_node.among, is.2.is_row.high)
line_within nodes line (Meet left right subspace from) is = (is.2.is_left.among, is.2.is_right.among, is.2.apart)
line_within nodes line (Same left right) is = (is.2.is_left.among, is.2.is_right.among)

lines_within : (nodes : ℕ) (bytes : List ℕ) (ls : List MeshLine) (rest : List ℕ) → HasLines nodes bytes ls rest → All (NamesAmong nodes) ls
lines_within nodes bytes [] rest has = All-nil (NamesAmong nodes)
lines_within nodes bytes (l ∷ ls) rest has = All-cons (NamesAmong nodes) l ls (line_within nodes has.0 l has.3) (lines_within nodes has.1 ls rest has.4)

pub all_within : (bytes : List ℕ) (nodes : ℕ) (lines : List MeshLine) → IsMesh bytes nodes lines → All (NamesAmong nodes) lines
all_within bytes nodes lines is = lines_within nodes is.others lines [] is.has_lines

pub some_nodes : (bytes : List ℕ) (nodes : ℕ) (lines : List MeshLine) → IsMesh bytes nodes lines → 1 ≤ nodes
some_nodes bytes nodes lines is = is.is_first.number.low

pub few_nodes : (bytes : List ℕ) (nodes : ℕ) (lines : List MeshLine) → IsMesh bytes nodes lines → nodes ≤ MOST_NODES
few_nodes bytes nodes lines is = is.is_first.number.high
