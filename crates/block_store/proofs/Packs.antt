-- Sizes of which two neighbours have more than 64 together.
use Rattle.std.proofs.Common.{◌≡◌, inl, inr, ℕ, suc, ◌+◌, ◌-◌, ◌*◌, ◌/◌, ◌≤◌, ◌<◌, List, [], ◌∷◌, ◌++◌, length, take, drop, get_or, set, sum, sym, ap, ◌∙◌, subst, arith}
use Rattle.std.proofs.lemmas.Bool.{cases_eq}
use Rattle.std.proofs.lemmas.List.{length-append, length-set, get_or_append_left, get_or-append-add, get_or-set_same, get_or-set_other, take-append-drop, drop-drop, get_or-take, get_or-drop, length-take-le, length-drop}
use Rattle.std.proofs.lemmas.List.Sums.{sum_by-cons}
use Rattle.block_store.specs.Packing.{ArePacked}
use Rattle.block_store.proofs.Finding.{either}

abbrev pub first_of : List ℕ → ℕ
first_of ns = get_or ns 0 0

abbrev pub last_of : List ℕ → ℕ
last_of ns = get_or ns (length ns - 1) 0

module _ (xs ys : List ℕ) where
  right_at : (k : ℕ) → get_or (xs ++ ys) (length xs + k) 0 ≡ get_or ys k 0
  right_at k = get_or-append-add xs ys k 0

  pub packed_front : ArePacked (xs ++ ys) → ArePacked xs
  packed_front packed k h =
      omega (arith, packed k (omega (arith, length-append xs ys)), get_or_append_left xs ys 0 k (omega arith), get_or_append_left xs ys 0 (k + 1) h)

  pub packed_back : ArePacked (xs ++ ys) → ArePacked ys
  packed_back packed k h =
      let next : length xs + (k + 1) ≡ length xs + k + 1 = omega arith in
      omega (arith, packed (length xs + k) (omega (arith, length-append xs ys)), right_at k, right_at (k + 1), ap (λ n. get_or (xs ++ ys) n 0) next)

  pub packed_seam : ArePacked (xs ++ ys) → 0 < length xs → 0 < length ys → 64 < last_of xs + first_of ys
  packed_seam packed some more =
      let last : length xs - 1 + 1 ≡ length xs + 0 = omega arith in
      omega (
        arith,
        packed (length xs - 1) (omega (arith, length-append xs ys)),
        get_or_append_left xs ys 0 (length xs - 1) (omega arith),
        ap (λ n. get_or (xs ++ ys) n 0) last,
        right_at 0,
      )

  pub packed_join : ArePacked xs → ArePacked ys → (0 < length xs → 0 < length ys → 64 < last_of xs + first_of ys) → ArePacked (xs ++ ys)
  packed_join front back seam k h = elim (either (k + 1) (length xs)) [
    | inl before ↦ omega (arith, front k before, get_or_append_left xs ys 0 k (omega arith), get_or_append_left xs ys 0 (k + 1) before)
    | inr reached ↦ elim (either k (length xs)) [
      | inl at ↦ (
          let last : k ≡ length xs - 1 = omega arith in
          let next : k + 1 ≡ length xs + 0 = omega arith in
          omega (
            arith,
            seam (omega arith) (omega (arith, length-append xs ys)),
            get_or_append_left xs ys 0 k at,
            ap (λ n. get_or xs n 0) last,
            ap (λ n. get_or (xs ++ ys) n 0) next,
            right_at 0,
          )
          )
      | inr behind ↦ (
          let i = k - length xs in
          let here : k ≡ length xs + i = omega arith in
          let next : k + 1 ≡ length xs + (i + 1) = omega arith in
          omega (
            arith,
            back i (omega (arith, length-append xs ys)),
            ap (λ n. get_or (xs ++ ys) n 0) here,
            ap (λ n. get_or (xs ++ ys) n 0) next,
            right_at i,
            right_at (i + 1),
          )
          )
    ]
  ]

  pub first_joined : 0 < length xs → first_of (xs ++ ys) ≡ first_of xs
  first_joined some = get_or_append_left xs ys 0 0 some

  pub last_joined : 0 < length ys → last_of (xs ++ ys) ≡ last_of ys
  last_joined some =
      let last : length (xs ++ ys) - 1 ≡ length xs + (length ys - 1) = omega (arith, length-append xs ys) in
      ap (λ n. get_or (xs ++ ys) n 0) last ∙ right_at (length ys - 1)

pub packed_one : (n : ℕ) → ArePacked (n ∷ [])
packed_one n k h = absurd (omega arith)

pub packed_none : ArePacked []
packed_none k h = absurd (omega arith)

-- the last one grows
pub packed_larger : (xs : List ℕ) (m n : ℕ) → m ≤ n → ArePacked (xs ++ m ∷ []) → ArePacked (xs ++ n ∷ [])
packed_larger xs m n h packed =
    packed_join xs (n ∷ []) (packed_front xs (m ∷ []) packed) (packed_one n) (λ some more. omega (arith, packed_seam xs (m ∷ []) packed some (omega arith)))

-- one more behind the last
pub packed_pushed : (xs : List ℕ) (m n : ℕ) → 64 < m + n → ArePacked (xs ++ m ∷ []) → ArePacked ((xs ++ m ∷ []) ++ n ∷ [])
packed_pushed xs m n h packed =
    packed_join (xs ++ m ∷ []) (n ∷ []) packed (packed_one n) (λ some more. omega (arith, last_joined xs (m ∷ []) (omega arith)))

-- one of them grows
pub packed_set : (ns : List ℕ) (i n : ℕ) → i < length ns → get_or ns i 0 ≤ n → ArePacked ns → ArePacked (set ns i n)
packed_set ns i n inside h packed k lt =
    omega (arith, packed k (omega (arith, length-set ns i n)), at_least k, at_least (k + 1))
  where
    at_least : (k : ℕ) → get_or ns k 0 ≤ get_or (set ns i n) k 0
    at_least k = elim (cases_eq k i) [
      | inl same ↦ omega (arith, get_or-set_same ns i n 0 inside, ap (λ j. get_or ns j 0) same, ap (λ j. get_or (set ns i n) j 0) same)
      | inr apart ↦ omega (arith, get_or-set_other ns i k n 0 apart)
    ]

-- some neighbours are replaced: on each side by one that is no smaller than what stood there
pub packed_spliced : (before run behind fresh : List ℕ) → ArePacked (before ++ (run ++ behind)) → ArePacked fresh → (0 < length run)
    → (0 < length before → (0 < length fresh) × (first_of run ≤ first_of fresh)) → (0 < length behind → (0 < length fresh) × (last_of run ≤ last_of fresh)) → ArePacked (before ++ (fresh ++ behind))
packed_spliced before run behind fresh packed made some front back =
    let tail = packed_back before (run ++ behind) packed in
    let later : ArePacked (fresh ++ behind) = packed_join fresh behind made (packed_back run behind tail) (λ a b. omega (arith, packed_seam run behind tail some b, (back b).1)) in
    packed_join before (fresh ++ behind) (packed_front before (run ++ behind) packed) later (λ a b. omega (
      arith,
      packed_seam before (run ++ behind) packed a (omega (arith, length-append run behind)),
      first_joined run behind some,
      first_joined fresh behind (front a).0,
      (front a).1,
    ))

some_first : (ns : List ℕ) → 0 < first_of ns → 0 < length ns
some_first [] h = absurd (omega arith)
some_first (n ∷ ns) h = omega arith

some_last : (ns : List ℕ) → 0 < last_of ns → 0 < length ns
some_last [] h = absurd (omega arith)
some_last (n ∷ ns) h = omega arith

-- the sizes from one place up to another are replaced
pub packed_between : (ns fresh : List ℕ) (from to : ℕ) → from < to → to ≤ length ns → ((k : ℕ) → k < length ns → 0 < get_or ns k 0) → ArePacked ns → ArePacked fresh
    → (0 < from → get_or ns from 0 ≤ first_of fresh) → (to < length ns → get_or ns (to - 1) 0 ≤ last_of fresh) → ArePacked (take from ns ++ (fresh ++ drop to ns))
packed_between ns fresh from to lt within positive packed made front back =
    let run = take (to - from) (drop from ns) in
    let sum : from + (to - from) ≡ to = omega arith in
    let end : from + (to - from - 1) ≡ to - 1 = omega arith in
    let behind : drop (to - from) (drop from ns) ≡ drop to ns = drop-drop (to - from) from ns ∙ ap (λ k. drop k ns) sum in
    let whole : ns ≡ take from ns ++ (run ++ drop to ns) =
    sym (take-append-drop from ns) ∙ ap (λ l. take from ns ++ l) (sym (take-append-drop (to - from) (drop from ns)) ∙ ap (λ l. run ++ l) behind) in
    let long : length run ≡ to - from = length-take-le (to - from) (drop from ns) (omega (arith, length-drop from ns)) in
    let first : first_of run ≡ get_or ns (from + 0) 0 = get_or-take (to - from) (drop from ns) 0 0 (omega arith) ∙ get_or-drop from ns 0 0 in
    let here : from + 0 ≡ from = omega arith in
    let last : last_of run ≡ get_or ns (to - 1) 0 =
    ap (λ n. get_or run (n - 1) 0) long ∙ get_or-take (to - from) (drop from ns) (to - from - 1) 0 (omega arith) ∙ get_or-drop from ns (to - from - 1) 0 ∙ ap (λ k. get_or ns k 0) end in
    packed_spliced (take from ns) run (drop to ns) fresh (subst ArePacked whole packed) made (omega (arith, long))
    (λ some. let least = positive from (omega arith) in let h = front (omega (arith, length-take-le from ns (omega arith))) in (some_first fresh (omega (arith, h, least)), omega (arith, h, first, ap (λ k. get_or ns k 0) here)))
    (λ some. let least = positive (to - 1) (omega arith) in let h = back (omega (arith, length-drop to ns)) in (some_last fresh (omega (arith, h, least)), omega (arith, h, last)))

-- at most twice the blocks that so many rows need
pub few_blocks : (ns : List ℕ) → ((k : ℕ) → k < length ns → 0 < get_or ns k 0) → ArePacked ns → length ns ≤ 2 * ((sum ns + 63) / 64)
few_blocks [] some packed = omega arith
few_blocks (n ∷ []) some packed = omega (arith, some 0 (omega arith), sum_by-cons (λ (x : ℕ). x) n [])
few_blocks (m ∷ n ∷ ns) some packed =
    let rest = few_blocks ns (λ k h. some (suc (suc k)) (omega arith)) (λ k h.
    let next : suc (suc k) + 1 ≡ suc (suc (k + 1)) = omega arith in
    omega (arith, packed (suc (suc k)) (omega arith), ap (λ j. get_or (m ∷ n ∷ ns) j 0) next)) in
    omega (arith, rest, packed 0 (omega arith), sum_by-cons (λ (x : ℕ). x) m (n ∷ ns), sum_by-cons (λ (x : ℕ). x) n ns)
