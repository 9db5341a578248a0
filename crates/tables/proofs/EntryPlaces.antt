-- Each entry of each table is in one table block, and in no other.
use Rattle.std.proofs.Common.{◌≡◌, ℕ, ◌+◌, ◌-◌, ◌/◌, ◌<◌, ◌≤◌, Some, None, sym, refl, ap, ◌∙◌, subst, inl, inr, arith}
use Rattle.std.proofs.lemmas.Option.{same_Some}
use Rattle.std.proofs.lemmas.Bool.{cases_lt, lt-ltb, le-ltb}
use Rattle.tables.specs.declared.layout.Shape.{Shape}
use Rattle.tables.specs.declared.layout.Table.{Table}
use Rattle.tables.specs.declared.layout.Table.TheVariants.{Links, Counts, Prints}
use Rattle.tables.specs.declared.layout.TableBlock.{TableBlock}
use Rattle.tables.specs.Layouts.{blocks_for, entries_of, first_block, table_blocks, part, table_block, Holds, EachInOne}

-- n is one of the blocks of the table t
abbrev Among : Shape → Table → ℕ → Type 0
Among s t n = (first_block s t ≤ n) × (n < first_block s t + blocks_for (entries_of s t))

module _ (s : Shape) where
  -- A block of a table is what the table's part says.
  at_table : (t : Table) (n : ℕ) → Among s t n → table_block s n ≡ Some (part s t n)
  at_table Links n among = let t = lt-ltb n (first_block s Counts) (omega (arith, among.1)) in simp t
  at_table Counts n among =
      let f = le-ltb n (first_block s Counts) among.0 in
      let t = lt-ltb n (first_block s Prints) among.1 in
      simp (f, t)
  at_table Prints n among =
      let f = le-ltb n (first_block s Counts) (omega (arith, among.0)) in
      let g = le-ltb n (first_block s Prints) among.0 in
      let t = lt-ltb n (table_blocks s) among.1 in
      simp (f, g, t)

  -- A table block is a block of some table.
  in_table : (n : ℕ) (b : TableBlock) → table_block s n ≡ Some b → (t : Table) × Among s t n
  in_table n b is = elim (cases_lt n (first_block s Counts)) [
    | inl lt ↦ (Links, (omega arith, omega arith))
    | inr past-links ↦ elim (cases_lt n (first_block s Prints)) [
      | inl lt ↦ (Counts, (past-links, lt))
      | inr past-counts ↦ elim (cases_lt n (table_blocks s)) [
        | inl lt ↦ (Prints, (past-counts, lt))
        | inr past ↦
            let f = le-ltb n (first_block s Counts) past-links in
            let g = le-ltb n (first_block s Prints) past-counts in
            let h = le-ltb n (table_blocks s) past in
            let none : table_block s n ≡ None = simp (f, g, h) in
            let z : ◌≡◌ {A = ℕ} 0 1 = cc in
            absurd (omega arith)
      ]
    ]
  ]

  -- What holds an entry of a table is a block of that table.
  holder : (t : Table) (i n : ℕ) → Holds s t i n → Among s t n × ((part s t n).first ≤ i) × (i < (part s t n).first + (part s t n).entries)
  holder t i n h =
      let u = in_table n h.block h.is in
      let b : h.block ≡ part s u.0 n = same_Some h.block (part s u.0 n) (sym h.is ∙ at_table u.0 n u.1) in
      let same : u.0 ≡ t = sym (ap (λ x. x.table) b) ∙ h.of_table in
      subst (λ t. Among s t n × ((part s t n).first ≤ i) × (i < (part s t n).first + (part s t n).entries)) same
      (u.1, subst (λ x. x.first ≤ i) b h.from, subst (λ x. i < x.first + x.entries) b h.to)

  pub each_in_one : EachInOne s
  each_in_one t i lt =
      let f = first_block s t in
      let n = f + i / 128 in
      let k : n - f ≡ i / 128 = omega arith in (
        n,
        record {
          block = part s t n;
          is = at_table t n (omega arith, omega arith);
          of_table = refl;
          from = omega arith;
          to = omega arith;
        },
        λ m h. let g = holder t i m h in omega (arith, g.0.0, g.0.1, g.1, g.2),
      )
