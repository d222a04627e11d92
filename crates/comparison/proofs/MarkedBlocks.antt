-- Marks of blocks: the marks that the edges of a node lead to are those of the blocks that they lead into.
use mathlib.Core.Path.{◌≡◌, sym, ap, subst, ◌∙◌}
use Prim.Native.Nat.{ℕ, ◌+◌, ◌≤◌, ◌<◌}
use native.Mathlib.Omega.{arith}
use mathlib.Core.List.{List}
use mathlib.Core.Bool.{Bool, true, false, ◌&&◌}
use lib.ListN.{get_or}
use lib.Dec.{T, not_T}
use Rattle.truth.specs.Sizes.{members_most}
use Rattle.truth.specs.Passed.{nodes, machine_refusal, within, nodes_most}
use Rattle.truth.specs.inner.Rows.{leads_into}
use Rattle.truth.specs.inner.Marks.{marked, marks_into}
use Rattle.std.specs.Prelude.{Option, None, Some}
use Rattle.truth.proofs.marks.NotedMarks.{marked-as, mark-of}
use Rattle.truth.proofs.Passed.{and_right, passed, failed, within_in, nodes-sized, edge_stays}
use Rattle.truth.proofs.structure.TargetRows.{leads-into}
use Rattle.comparison.specs.inner.Blocks.{Members, In, Covers, Disjoint}
use Rattle.comparison.specs.inner.Signatures.{BlockMarks}

pub same_test : (a b : Bool) → (T a → T b) → (T b → T a) → a ≡ b
same_test true b f g = sym (passed b (f tt))
same_test false b f g = sym (failed b (not_T b (λ t. g t)))

module _ (M : List ℕ) (ok : machine_refusal M ≡ 0) (mem : Members) (n : ℕ) (covers : Covers M mem n) (once : Disjoint M mem n) (mark : List (Option ℕ))
    (has : BlockMarks mem n mark) where
  -- the mark of a node is that of its block
  own-mark : (t : ℕ) → 1 ≤ t → t ≤ nodes M → (b : ℕ) × (b < n) × (get_or mark t None ≡ Some (b + 1)) × T (mem b t)
  unfolding Covers BlockMarks
  own-mark t lo hi = let c = covers t lo hi in has c.0 t c.1 c.2

  mark-test : (t : ℕ) → 1 ≤ t → t ≤ nodes M → (d : ℕ) → d < n → (within 1 members_most t && marked mark t (d + 1)) ≡ mem d t
  unfolding Disjoint In
  mark-test t lo hi d h =
      let b = own-mark t lo hi in
      let few = (nodes-sized M ok).1 in
      rw (passed (within 1 members_most t) (within_in 1 members_most t lo (omega arith)))
      (same_test (marked mark t (d + 1)) (mem d t)
      (λ e. subst (λ (k : ℕ). T (mem k t)) (same b.0 d (sym b.2 ∙ mark-of mark t (d + 1) e)) b.3)
      (λ m. marked-as mark t (d + 1) (b.2 ∙ ap (λ (k : ℕ). Some (k + 1)) (once b.0 d t b.1 h (lo, hi, b.3) (lo, hi, m)))))
    where
      same : (b d : ℕ) → ◌≡◌ {A = Option ℕ} (Some (b + 1)) (Some (d + 1)) → b ≡ d
      same b d q = let i : b + 1 ≡ d + 1 = cc in omega arith

  module _ (s : ℕ) (lo : 1 ≤ s) (hi : s ≤ nodes M) where
    pub marks-next : (d : ℕ) → d < n → n ≤ nodes_most → marks_into M mark s (d + 1) ≡ leads_into M (mem d) s
    unfolding marks_into leads_into
    marks-next d h few =
        rw (passed (within 1 members_most (d + 1)) (within_in 1 members_most (d + 1) (omega arith) (omega arith)))
        (same_test (leads_into M (λ t. within 1 members_most t && marked mark t (d + 1)) s) (leads_into M (mem d) s)
        (λ x. let f = (leads-into M (λ t. within 1 members_most t && marked mark t (d + 1)) s).1 x in
        let r = edge_stays M ok s lo hi f.0 f.1 in
        (leads-into M (mem d) s).0 (f.0, f.1, rw (mark-test f.0 r.0 r.1 d h) at f.2))
        (λ x. let f = (leads-into M (mem d) s).1 x in
        let r = edge_stays M ok s lo hi f.0 f.1 in
        (leads-into M (λ t. within 1 members_most t && marked mark t (d + 1)) s).0 (f.0, f.1, rw (mark-test f.0 r.0 r.1 d h) f.2)))

    pub marks-high : (e : ℕ) → T (marks_into M mark s e) → (1 ≤ e) × (e ≤ n)
    unfolding marks_into leads_into
    marks-high e x =
        let f = (leads-into M (λ t. within 1 members_most t && marked mark t e) s).1 (and_right (within 1 members_most e) (leads_into M (λ t. within 1 members_most t && marked mark t e) s) x) in
        let r = edge_stays M ok s lo hi f.0 f.1 in
        let b = own-mark f.0 r.0 r.1 in
        let q : ◌≡◌ {A = Option ℕ} (Some (b.0 + 1)) (Some e) = sym b.2 ∙ mark-of mark f.0 e (and_right (within 1 members_most f.0) (marked mark f.0 e) f.2) in
        let i : b.0 + 1 ≡ e = cc in
        (omega (arith, i, b.1), omega (arith, i, b.1))
