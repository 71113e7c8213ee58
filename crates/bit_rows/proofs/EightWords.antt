-- Eight words joined lane by lane.
use Rattle.std.proofs.Common.{ℕ, ◌≡◌, ◌<◌, ◌≤◌, ◌+◌, ◌-◌, ◌%◌, ◌^◌, ◌↔◌, ◌⊎◌, List, length, get_or, replicate, inl, inr, arith, sym, ap, ◌∙◌, refl}
use Rattle.std.proofs.lemmas.Simd.{length-zip2, get_or-zip2, length-replicate, get_or-replicate, tops_compared, length-sel_l, get_or-sel_l}
use Rattle.std.proofs.Common.{◌++◌, take, drop, length-take-le, length-drop, get_or-take, get_or-drop, zero-add}
use Rattle.std.proofs.lemmas.List.{get_or-append_right}
use lib.ListN.{get_or-append}
use Rattle.std.proofs.lemmas.Bool.{cases_lt}
use borrow.Rule.Slice.PartMut.{put_mid, mid_of, post_of, put_same}
use Rattle.std.proofs.lemmas.Simd.{get_or-put_chunk_at, get_or-put_chunk_above, length-put_chunk}
use Rattle.std.specs.Simd.Lanes.{zip2, sel_l, top, put_chunk, chunk}
use Rattle.std.specs.Int.RustNames.{bit_or, bit_and}
use Rattle.std.proofs.Common.{subst, ◌*◌, w64, Bool, false, cond, eqb, map}
use Rattle.bit_rows.proofs.Bits.{Bit-chosen, Bit-width, Bit-zero, word_fits}
use Rattle.bit_rows.specs.Relation.{Bit}
use Rattle.bit_rows.specs.Rows.{RowsHave, AllFit, AreRowsFilled, AreLanesJoined, AreLanesStored, JoinedFrom, UnionWhere}

-- what is joined to each lane of acc
abbrev pub joined_lanes : List ℕ → List ℕ → ℕ → ℕ → List ℕ
joined_lanes acc select bit added =
    zip2 bit_or acc (sel_l
    (map (top 63) (zip2 (λ a b. cond (eqb a b) (2 ^ 64 - 1) 0)
    (zip2 bit_and select (replicate 8 bit)) (replicate 8 0)))
    (replicate 8 0)
    (replicate 8 added))

pub lanes_joined : (acc select : List ℕ) (k added : ℕ) → k < 64 → length acc ≡ 8 → length select ≡ 8
    → (length (joined_lanes acc select (1 * 2 ^ k % 2 ^ 64) added) ≡ 8)
    × AreLanesJoined acc select k added (joined_lanes acc select (1 * 2 ^ k % 2 ^ 64) added)
lanes_joined acc select k added small long_acc long_select =
    rw (tops_compared w64 eqb met (replicate 8 0)) (
      length-zip2 bit_or acc all
          (long_acc ∙ sym long_all) ∙ long_acc,
      lane,
    )
  where
    bit : ℕ
    bit = 1 * 2 ^ k % 2 ^ 64

    met : List ℕ
    met = zip2 bit_and select (replicate 8 bit)

    long_met : length met ≡ 8
    long_met =
        length-zip2 bit_and select (replicate 8 bit) (long_select ∙ sym (length-replicate 8 bit))
        ∙ long_select

    unset : List Bool
    unset = zip2 eqb met (replicate 8 0)

    long_unset : length unset ≡ 8
    long_unset =
        length-zip2 eqb met (replicate 8 0) (long_met ∙ sym (length-replicate {A = ℕ} 8 0))
        ∙ long_met

    all : List ℕ
    all = sel_l unset (replicate 8 0) (replicate 8 added)

    long_all : length all ≡ 8
    long_all =
        length-sel_l unset (replicate 8 0) (replicate 8 added) long_unset long_unset ∙ long_unset

    lane : AreLanesJoined acc select k added (zip2 bit_or acc all)
    lane i lt b =
        let in_acc : i < length acc = rw long_acc lt in
        let in_all : i < length all = rw long_all lt in
        let in_met : i < length met = rw long_met lt in
        let in_unset : i < length unset = rw long_unset lt in
        let in_select : i < length select = rw long_select lt in
        let met_at : get_or met i 0 ≡ bit_and (get_or select i 0) bit =
        get_or-zip2 bit_and select (replicate 8 bit) i 0 0 0 in_select lt
        ∙ ap (bit_and (get_or select i 0)) (get_or-replicate 8 i bit 0 lt) in
        let unset_at : get_or unset i false ≡ eqb (bit_and (get_or select i 0) bit) 0 =
        get_or-zip2 eqb met (replicate 8 0) i 0 0 false in_met lt
        ∙ (rw (met_at, get_or-replicate {A = ℕ} 8 i 0 0 lt) refl) in
        let all_at : get_or all i 0 ≡ cond (eqb (bit_and (get_or select i 0) bit) 0) 0 added =
        get_or-sel_l unset (replicate 8 0) (replicate 8 added) i 0 in_unset lt lt
        ∙ (rw (unset_at, get_or-replicate {A = ℕ} 8 i 0 0 lt, get_or-replicate 8 i added 0 lt)
        refl) in
        let joined_at : get_or (zip2 bit_or acc all) i 0 ≡ bit_or (get_or acc i 0) (cond (eqb (bit_and (get_or select i 0) bit) 0) 0 added) =
        get_or-zip2 bit_or acc all i 0 0 0 in_acc in_all ∙ (rw all_at refl) in
        rw joined_at (Bit-chosen (get_or acc i 0) (get_or select i 0) k added b small)

pub stored : (rows lanes : List ℕ) (at n : ℕ) → at + n ≡ 128 → 8 ≤ n → length lanes ≡ 8
    → length rows ≡ 128
    → AreLanesStored rows at lanes (put_mid at n rows (put_chunk 0 (mid_of at n rows) lanes))
stored rows lanes at n whole room long height = record {
  inside = λ i lt.
      get_or-append_right (take at rows) (ys ++ post) at (at + i) 0 long_prefix (omega arith)
      ∙ rw (add_sub_left at i) (
      get_or-append ys post 0 i (rw long_ys (omega arith))
      ∙ ap (λ (x : ℕ). get_or ys x 0) (sym (zero-add i))
      ∙ get_or-put_chunk_at 0 mid lanes i 0 (rw long lt) (rw (long, long_mid) room));
  outside = λ a h. elim h [
    | inl lt ↦ get_or-append (take at rows) (ys ++ post) 0 a (rw long_prefix lt)
        ∙ get_or-take at rows a 0 lt
    | inr ge ↦
        get_or-append_right (take at rows) (ys ++ post) at a 0 long_prefix (omega (arith, ge))
        ∙ beyond (a - at) (omega (arith, ge))
        ∙ sym (get_or-append_right (take at rows) (mid ++ post) at a 0 long_prefix
        (omega (arith, ge)))
        ∙ ap (λ (z : List ℕ). get_or z a 0) (put_same at n rows)
  ];
}
  where
    mid : List ℕ
    mid = mid_of at n rows

    post : List ℕ
    post = post_of at n rows

    ys : List ℕ
    ys = put_chunk 0 mid lanes

    long_prefix : length (take at rows) ≡ at
    long_prefix = length-take-le at rows (omega arith)

    long_mid : length mid ≡ n
    long_mid = length-take-le n (drop at rows) (omega (arith, length-drop at rows))

    long_ys : length ys ≡ n
    long_ys = length-put_chunk 0 mid lanes ∙ long_mid

    add_sub_left : (m k : ℕ) → m + k - m ≡ k
    add_sub_left m k = omega arith

    beyond : (j : ℕ) → 8 ≤ j → get_or (ys ++ post) j 0 ≡ get_or (mid ++ post) j 0
    beyond j ge =
        elim (cases_lt j n) [
          | inl lt ↦
              get_or-append ys post 0 j (rw long_ys lt)
              ∙ get_or-put_chunk_above 0 mid lanes j 0 (rw long ge)
              ∙ sym (get_or-append mid post 0 j (rw long_mid lt))
          | inr past ↦
              get_or-append_right ys post n j 0 long_ys past
              ∙ sym (get_or-append_right mid post n j 0 long_mid past)
        ]

-- the eight words from an index on
pub loaded : (rows : List ℕ) (at n : ℕ) → 8 ≤ n → at + n ≡ 128 → length rows ≡ 128
    → (length (chunk 0 8 (mid_of at n rows)) ≡ 8)
    × ((i : ℕ) → i < 8 → get_or (chunk 0 8 (mid_of at n rows)) i 0 ≡ get_or rows (at + i) 0)
loaded rows at n room whole height = (
  length-take-le 8 (mid_of at n rows) (rw long_mid room),
  (λ i lt. get_or-take 8 (mid_of at n rows) i 0 lt ∙ get_or-take n (drop at rows) i 0 (omega arith)
      ∙ get_or-drop at rows i 0),
)
  where
    long_mid : length (mid_of at n rows) ≡ n
    long_mid = length-take-le n (drop at rows) (omega (arith, length-drop at rows))

-- words joined with one that fits still fit
pub lane_fits : (acc select joined : List ℕ) (k added i : ℕ) → i < 8 → added < 2 ^ 64
    → get_or acc i 0 < 2 ^ 64 → AreLanesJoined acc select k added joined
    → get_or joined i 0 < 2 ^ 64
lane_fits acc select joined k added i lt fits_row fits_acc step =
    word_fits (get_or joined i 0) (λ b h. elim ((step i lt b).0 h) [
      | inl o ↦ Bit-width (get_or acc i 0) b fits_acc o
      | inr t ↦ Bit-width added b fits_row t.1
    ])

-- eight words more
pub written_block : (old new next lanes : List ℕ) (i m : ℕ) (P : ℕ → ℕ → Type 0) → m ≡ i + 8
    → length next ≡ length new → AreRowsFilled old new i P → AreLanesStored new i lanes next
    → (AllFit new → (j : ℕ) → j < 8 → get_or lanes j 0 < 2 ^ 64)
    → ((j : ℕ) → j < 8 → (b : ℕ) → RowsHave lanes j b ↔ P (i + j) b) → AreRowsFilled old next m P
written_block old new next lanes i m P end long before put small each = record {
  height = long ∙ before.height;
  fits = λ f a. elim (cases_lt a i) [
    | inl lt ↦ rw (put.outside a (inl lt)) (before.fits f a)
    | inr ge ↦ elim (cases_lt a (i + 8)) [
      | inl lt ↦ rw (added a ge lt) (small (before.fits f) (a - i) (omega arith))
      | inr past ↦ rw (put.outside a (inr past)) (before.fits f a)
    ]
  ];
  inside = λ a lt b. elim (cases_lt a i) [
    | inl less ↦ rw (put.outside a (inl less)) (before.inside a less b)
    | inr ge ↦
        let within : a < i + 8 = omega (arith, lt) in
        let here : i + (a - i) ≡ a = omega arith in
        rw (added a ge within) (subst (λ (x : ℕ). RowsHave lanes (a - i) b ↔ P x b) here
        (each (a - i) (omega arith) b))
  ];
  outside = λ a le. put.outside a (inr (omega (arith, le))) ∙ before.outside a (omega (arith, le));
}
  where
    added : (a : ℕ) → i ≤ a → a < i + 8 → get_or next a 0 ≡ get_or lanes (a - i) 0
    added a ge lt =
        let here : a ≡ i + (a - i) = omega arith in
        ap (λ (x : ℕ). get_or next x 0) here ∙ put.inside (a - i) (omega arith)

-- lanes of words that are still the old ones
pub lanes_still : (old new lanes : List ℕ) (i j : ℕ) (P : ℕ → ℕ → Type 0) → AreRowsFilled old new i P
    → get_or lanes j 0 ≡ get_or new (i + j) 0 → get_or lanes j 0 ≡ get_or old (i + j) 0
lanes_still old new lanes i j P before here = here ∙ before.outside (i + j) (omega arith)

-- one lane that is joined, as the words that it was loaded from
pub lane_union : (acc select joined accs selects : List ℕ) (i j k added : ℕ) → j < 8
    → get_or acc j 0 ≡ get_or accs (i + j) 0 → get_or select j 0 ≡ get_or selects (i + j) 0
    → AreLanesJoined acc select k added joined → (b : ℕ)
    → RowsHave joined j b ↔ UnionWhere (RowsHave accs) (RowsHave selects) k added (i + j) b
lane_union acc select joined accs selects i j k added lt from_acc from_select step b =
    subst (λ (y : ℕ). Joined (get_or accs (i + j) 0) y) from_select (subst
    (λ (x : ℕ). Joined x (get_or select j 0)) from_acc (step j lt b))
  where
    Joined : ℕ → ℕ → Type 0
    Joined x y = RowsHave joined j b ↔ (Bit x b ⊎ (Bit y k × Bit added b))

-- lanes that are joined with one word more
pub joined_more : (at c : ℕ) (acc select others old new : List ℕ)
    → ((i b : ℕ) → i < 8
    → RowsHave old i b
    ↔ JoinedFrom at c (RowsHave acc) (RowsHave select) (RowsHave others) i b)
    → AreLanesJoined old select c (get_or others (c + at) 0) new → (i b : ℕ) → i < 8
    → RowsHave new i b
    ↔ JoinedFrom at (c + 1) (RowsHave acc) (RowsHave select) (RowsHave others) i b
joined_more at c acc select others old new before step i b lt = (
  (λ h. elim ((step i lt b).0 h) [
    | inl kept ↦ elim ((before i b lt).0 kept) [
      | inl o ↦ inl o
      | inr t ↦ inr (t.0, omega (arith, t.1), t.2, t.3)
    ]
    | inr t ↦ inr (c, omega arith, t.0, t.1)
  ]),
  (λ h. (step i lt b).1 (elim h [
    | inl o ↦ inl ((before i b lt).1 (inl o))
    | inr t ↦ elim (cases_lt t.0 c) [
      | inl less ↦ inl ((before i b lt).1 (inr (t.0, less, t.2, t.3)))
      | inr ge ↦
          let same : t.0 ≡ c = omega (arith, t.1) in
          inr (
            subst (λ (y : ℕ). RowsHave select i y) same t.2,
            subst (λ (y : ℕ). RowsHave others (y + at) b) same t.3,
          )
    ]
  ])),
)

-- a word without bits adds nothing
pub joined_no_more : (at c : ℕ) (acc select others old : List ℕ)
    → ((i b : ℕ) → i < 8
    → RowsHave old i b
    ↔ JoinedFrom at c (RowsHave acc) (RowsHave select) (RowsHave others) i b)
    → get_or others (c + at) 0 ≡ 0 → (i b : ℕ) → i < 8
    → RowsHave old i b
    ↔ JoinedFrom at (c + 1) (RowsHave acc) (RowsHave select) (RowsHave others) i b
joined_no_more at c acc select others old before empty =
    joined_more at c acc select others old old before (λ i lt b. (
      (λ h. inl h),
      (λ h. elim h [
        | inl o ↦ o
        | inr t ↦ absurd
            (Bit-zero b (subst (λ (x : ℕ). Bit x b) empty t.1))
      ]),
    ))

-- they fit
pub joined_fits : (at end : ℕ) (acc select others joined : List ℕ) (i : ℕ) → AllFit others
    → get_or acc i 0 < 2 ^ 64
    → ((b : ℕ)
    → RowsHave joined i b
    ↔ JoinedFrom at end (RowsHave acc) (RowsHave select) (RowsHave others) i b)
    → get_or joined i 0 < 2 ^ 64
joined_fits at end acc select others joined i fits fits_acc turn =
    word_fits (get_or joined i 0) (λ b h. elim ((turn b).0 h) [
      | inl o ↦ Bit-width (get_or acc i 0) b fits_acc o
      | inr t ↦ Bit-width (get_or others (t.0 + at) 0) b (fits (t.0 + at)) t.3
    ])

-- one lane of them, as the words that it was loaded from
pub lane_joined : (at end : ℕ) (acc select others joined accs selects : List ℕ) (i j b : ℕ)
    → get_or acc j 0 ≡ get_or accs (i + j) 0 → get_or select j 0 ≡ get_or selects (i + j) 0
    → RowsHave joined j b ↔ JoinedFrom at end (RowsHave acc) (RowsHave select) (RowsHave others) j b
    → RowsHave joined j b
    ↔ JoinedFrom at end (RowsHave accs) (RowsHave selects) (RowsHave others) (i + j) b
lane_joined at end acc select others joined accs selects i j b from_acc from_select turn =
    subst (λ (y : ℕ). Joined (get_or accs (i + j) 0) y) from_select (subst
    (λ (x : ℕ). Joined x (get_or select j 0)) from_acc turn)
  where
    Joined : ℕ → ℕ → Type 0
    Joined x y =
        RowsHave joined j b
        ↔ (Bit x b ⊎ ((c : ℕ) × (c < end) × Bit y c × RowsHave others (c + at) b))
