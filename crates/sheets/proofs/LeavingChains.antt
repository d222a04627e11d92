-- What is gathered of the transitions out of a state: one transition more in each field, and what each field has at the chain's end.
use mathlib.Core.Path.{◌≡◌, refl, sym, ◌∙◌, ap}
use mathlib.Core.Logic.{⊎_elim}
use Prim.Native.Nat.{ℕ, ◌+◌, ◌^◌, ◌≤◌, ◌<◌}
use native.Mathlib.Omega.{arith}
use mathlib.Core.List.{List, [], ◌∷◌, map}
use mathlib.Core.Bool.{Bool, true, false, not, not-not, ◌&&◌, ◌||◌, and-true, and-false, and_comm, or-false}
use borrow.Author.Tests.{lt-ltb, eq-eqb}
use lib.ListN.{length, get_or, take}
use lib.Seq.{length-take-le, get_or-take}
use lib.Bits.{bit_and, bit_or}
use lib.Dec.{T, leb, ltb, eqb, eqb→eq, ltb→lt}
use Rattle.sheets.specs.Format.{transition_words, transitions_from, chained_most}
use Rattle.sheets.specs.Words.{bit, indicator, how_many, all_of, any_of, member}
use Rattle.sheets.specs.inner.Positions.{some_below, stands_at}
use Rattle.sheets.specs.Records.{record_word, record_at}
use Rattle.sheets.specs.inner.Walkers.{records}
use Rattle.sheets.specs.Rules.{automata, states, transitions, first_transition, transition_word, transitions_of, transition_target, mask, distinct, transitions_fit, leads}
use Rattle.sheets.specs.inner.Gathered.{Along, Never, Until}
use Rattle.sheets.specs.inner.Transitions.{Left, LeavingTaken, Leaves}
use Rattle.sheets.specs.declared.states.Positions.{Positions}
use Rattle.sheets.specs.declared.states.States.{States}
use Rattle.sheets.specs.declared.transitions.Leaving.{Leaving}
use Rattle.sheets.proofs.Tests.{and_left, and_right, and_both, or_left, or_right, or_cases}
use Rattle.sheets.proofs.BitLaws.{bit-or, bit-and, bit-none}
use Rattle.sheets.proofs.Positions.{same_tests, place_in, place_of, some_at, some_in, some_same}
use Rattle.sheets.proofs.Records.{rest}
use Rattle.sheets.proofs.GatheredChains.{whole-way, along-keeps, any-along, all-along}
use Rattle.sheets.proofs.TestedLists.{all_both, any-guarded, any_none, one_more, or-below, pow_pos, some-false, two-more}

-- ---- a mask more at the positions of a set

module _ (masks : List ℕ) (set mask k : ℕ) where
  -- v is the mask at k, with one more if k is in the set
  abbrev pub Masked : ℕ → Type 0
  Masked v = (w : ℕ) → bit v w ≡ (bit (get_or masks k 0) w || (bit mask w && bit set k))

  pub masked-more : (v kept : ℕ) (in_set : Bool) → v ≡ get_or masks k 0 → in_set ≡ bit set k → ((w : ℕ) → bit kept w ≡ (in_set && bit mask w)) → Masked (bit_or v kept)
  masked-more v kept in_set e s is w = bit-or v kept w ∙ rw (e, is w, s, and_comm (bit set k) (bit mask w))

-- ---- a transition more, as the code has it

module _ (a : Leaving) (t m : ℕ) where
  -- t stands at position k
  abbrev at_k : ℕ → Bool
  at_k = stands_at a.states.numbers a.states.count t

  module _ (here led both met more : Positions) (masks : List ℕ) (there again : Bool) where
    abbrev after : Leaving
    after = record {
      states = a.states;
      masks = masks;
      met = met;
      led = more;
      once = bit_or a.once m;
      twice = bit_or a.twice (bit_and a.once m);
      fits = a.fits && (not there && not (not again));
    }

    pub left-more : ((k : ℕ) → bit here.bits k ≡ at_k k)
        → ((k w : ℕ) → k < a.states.count → bit (get_or masks k 0) w ≡ (bit (get_or a.masks k 0) w || (bit m w && bit here.bits k)))
        → ((k : ℕ) → bit led.bits k ≡ (not (eqb m 0) && bit here.bits k))
        → there ≡ not (some_below chained_most (bit here.bits))
        → ((k : ℕ) → bit both.bits k ≡ (bit here.bits k && bit a.met.bits k)) → again ≡ not (some_below chained_most (bit both.bits))
        → ((k : ℕ) → bit met.bits k ≡ (bit a.met.bits k || bit here.bits k)) → ((k : ℕ) → bit more.bits k ≡ (bit a.led.bits k || bit led.bits k)) → Left a t m after
    left-more at masked marked some both_is twice met_is more_is =
        let on : there ≡ not (some_below chained_most at_k) = some ∙ ap not (some_same (bit here.bits) at_k at chained_most) in
        let again_is : again ≡ not (some_below chained_most (λ k. at_k k && bit a.met.bits k)) =
        twice ∙ ap not (some_same (bit both.bits) (λ k. at_k k && bit a.met.bits k) (λ k. both_is k ∙ ap (λ b. b && bit a.met.bits k) (at k)) chained_most) in
        record {
          states = refl;
          masks = λ k w l. masked k w l ∙ ap (λ b. bit (get_or a.masks k 0) w || (bit m w && b)) (at k ∙ ap (λ b. b && eqb t (get_or a.states.numbers k 0)) (lt-ltb k a.states.count l));
          met = λ k. met_is k ∙ ap (λ b. bit a.met.bits k || b) (at k);
          led = λ k. more_is k ∙ ap (λ b. bit a.led.bits k || b) (marked k ∙ ap (λ b. not (eqb m 0) && b) (at k));
          once = refl;
          twice = λ w. bit-or a.twice (bit_and a.once m) w ∙ ap (λ b. bit a.twice w || b) (bit-and a.once m w);
          fits = rw (on, again_is, not-not (some_below chained_most at_k), not-not (some_below chained_most (λ k. at_k k && bit a.met.bits k)));
        }

module _ (states : List ℕ) (n : ℕ) (few : n ≤ chained_most) where
  -- t stands at some position
  abbrev on : ℕ → Bool
  on t = some_below chained_most (stands_at states n t)

  -- t stands at a position of a set
  abbrev among : (ℕ → Bool) → ℕ → Bool
  among met t = some_below chained_most (λ k. stands_at states n t k && met k)

  at_place : (t k : ℕ) → T (stands_at states n t k) → (k < n) × (t ≡ get_or states k 0)
  at_place t k h = (ltb→lt k n (and_left (ltb k n) (eqb t (get_or states k 0)) h), eqb→eq t (get_or states k 0) (and_right (ltb k n) (eqb t (get_or states k 0)) h))

  in_place : (t k : ℕ) → k < n → t ≡ get_or states k 0 → T (stands_at states n t k)
  in_place t k l e = rw (lt-ltb k n l, eq-eqb t (get_or states k 0) e) tt

  on-member : n ≤ length states → (t : ℕ) → on t ≡ member t (take n states)
  on-member room t = same_tests (on t) (member t (take n states)) there back
    where
      size : length (take n states) ≡ n
      size = length-take-le n states room

      there : T (on t) → T (member t (take n states))
      there h =
          let r = some_at (stands_at states n t) chained_most h in
          let p = at_place t r.0 r.2 in
          rw (p.1, ← (get_or-take n states r.0 0 p.0)) (place_in (take n states) r.0 (omega (arith, p.0, size)))

      back : T (member t (take n states)) → T (on t)
      back h =
          let r = place_of (take n states) t h in
          let l : r.0 < n = omega (arith, r.1, size) in
          some_in (stands_at states n t) chained_most r.0 (omega arith) (in_place t r.0 l (sym (sym (get_or-take n states r.0 0 l) ∙ r.2)))

  -- the set with the positions of t more
  among-more : (met now : ℕ → Bool) (t u : ℕ) → ((k : ℕ) → now k ≡ (met k || stands_at states n t k)) → among now u ≡ (among met u || (on t && eqb t u))
  among-more met now t u more = same_tests (among now u) (among met u || (on t && eqb t u)) there back
    where
      there : T (among now u) → T (among met u || (on t && eqb t u))
      there h =
          let r = some_at (λ k. stands_at states n u k && now k) chained_most h in
          let k = r.0 in
          let s = and_left (stands_at states n u k) (now k) r.2 in
          ⊎_elim (λ m. or_left (among met u) (on t && eqb t u) (some_in (λ k. stands_at states n u k && met k) chained_most k r.1 (and_both (stands_at states n u k) (met k) s m)))
          (λ m. or_right (among met u) (on t && eqb t u) (and_both (on t) (eqb t u) (some_in (stands_at states n t) chained_most k r.1 m) (rw (eq-eqb t u ((at_place t k m).1 ∙ sym (at_place u k s).1)) tt)))
          (or_cases (met k) (stands_at states n t k) (rw (more k) at (and_right (stands_at states n u k) (now k) r.2)))

      back : T (among met u || (on t && eqb t u)) → T (among now u)
      back h =
          ⊎_elim
          (λ m.
          let r = some_at (λ k. stands_at states n u k && met k) chained_most m in
          let k = r.0 in
          some_in (λ k. stands_at states n u k && now k) chained_most k r.1
          (and_both (stands_at states n u k) (now k) (and_left (stands_at states n u k) (met k) r.2) (rw (more k) (or_left (met k) (stands_at states n t k) (and_right (stands_at states n u k) (met k) r.2)))))
          (λ m.
          let r = some_at (stands_at states n t) chained_most (and_left (on t) (eqb t u) m) in
          let k = r.0 in
          let p = at_place t k r.2 in
          let s = in_place u k p.0 (sym (eqb→eq t u (and_right (on t) (eqb t u) m)) ∙ p.1) in
          some_in (λ k. stands_at states n u k && now k) chained_most k r.1 (and_both (stands_at states n u k) (now k) s (rw (more k) (or_right (met k) (stands_at states n t k) r.2))))
          (or_cases (among met u) (on t && eqb t u) h)

  gathered : (m o e b c : Bool) → ((m || (o && e)) || (b || (o && c))) ≡ ((m || b) || (o && (e || c)))
  gathered true o e b c = refl
  gathered false false e b c = refl
  gathered false true true true c = refl
  gathered false true true false c = refl
  gathered false true false b c = refl

  module _ (target : ℕ → ℕ) where
    -- some of the targets that are left is among those met, or is t
    any-more : (met now : ℕ → Bool) (t : ℕ) → ((k : ℕ) → now k ≡ (met k || stands_at states n t k)) → (ys : List ℕ)
        → any_of ys (λ y. among now (target y)) ≡ (any_of ys (λ y. among met (target y)) || (on t && member t (map target ys)))
    unfolding any_of member
    any-more met now t more [] = sym (and-false (on t))
    any-more met now t more (y ∷ ys) =
        rw (among-more met now t (target y) more, any-more met now t more ys)
        (gathered (among met (target y)) (on t) (eqb t (target y)) (any_of ys (λ y. among met (target y))) (member t (map target ys)))

    -- the targets that are left stand at positions, none twice, and none is met already
    abbrev fitting : (ℕ → Bool) → List ℕ → Bool
    fitting met ys = (all_of ys (λ y. on (target y)) && distinct (map target ys)) && not (any_of ys (λ y. among met (target y)))

    settled : (f o m a d t b : Bool) → (f && (((o && a) && (not t && d)) && not (m || b))) ≡ ((f && (o && not m)) && ((a && d) && not (b || (o && t))))
    settled false o m a d t b = refl
    settled true false m a d t b = refl
    settled true true true a d t b = and-false ((a && (not t && d)))
    settled true true false false d t b = refl
    settled true true false true d true b = sym (rw (orb b) (and-false d))
      where
        orb : (b : Bool) → (b || true) ≡ true
        orb true = refl
        orb false = refl
    settled true true false true d false b = rw (or-false b)

    fit-more : (f g : Bool) (met now : ℕ → Bool) (y : ℕ) (ys : List ℕ) → ((k : ℕ) → now k ≡ (met k || stands_at states n (target y) k))
        → g ≡ (f && (on (target y) && not (among met (target y)))) → (f && fitting met (y ∷ ys)) ≡ (g && fitting now ys)
    unfolding all_of any_of distinct
    fit-more f g met now y ys more e =
        rw (e, any-more met now (target y) more ys)
        (settled f (on (target y)) (among met (target y)) (all_of ys (λ y. on (target y))) (distinct (map target ys)) (member (target y) (map target ys)) (any_of ys (λ y. among met (target y))))

    fit_none : (met : ℕ → Bool) (ys : List ℕ) → ((k : ℕ) → met k ≡ false) → (all_of ys (λ y. on (target y)) && distinct (map target ys)) ≡ fitting met ys
    fit_none met ys none =
        rw (any_none ys (λ y. among met (target y)) (λ y. some-false chained_most (λ k. stands_at states n (target y) k && met k) (λ k. rw (none k) (and-false (stands_at states n (target y) k)))))
        (sym (and-true (all_of ys (λ y. on (target y)) && distinct (map target ys))))

fitted : (p q r : ℕ → Bool) → ((y : ℕ) → q y ≡ r y) → (ys : List ℕ) (d : Bool) → ((all_of ys q && d) && all_of ys p) ≡ (all_of ys (λ y. p y && r y) && d)
fitted p q r h ys d = last (all_of ys q) (all_of ys p) d ∙ ap (λ z. z && d) (all_both p q r h ys)
  where
    last : (a b d : Bool) → ((a && d) && b) ≡ ((a && b) && d)
    last false b d = refl
    last true true d = and-true d
    last true false d = and-false d

-- ---- at the chain's end

module _ (read : ℕ → ℕ → ℕ) (left x : ℕ) (a r : Leaving) (along : Along LeavingTaken (records read 3 left x) a r) where
  abbrev Same : Leaving → Type 0
  Same b = b.states ≡ a.states

  abbrev all : List ℕ
  all = rest read 3 left x

  took : (b c : Leaving) (y : ℕ) → LeavingTaken b (record_at read 3 y) c → Same b → Left b (read y 0) (read y 1) c × Same c
  took b c y t q = (t, t.states ∙ q)

  masks-along : (k w : ℕ) → k < a.states.count
      → bit (get_or r.masks k 0) w ≡ (bit (get_or a.masks k 0) w || any_of all (λ y. bit (read y 1) w && eqb (read y 0) (get_or a.states.numbers k 0)))
  masks-along k w l =
      any-along LeavingTaken read 3 (λ b. bit (get_or b.masks k 0) w) Same (λ y. bit (read y 1) w && eqb (read y 0) (get_or a.states.numbers k 0))
      (λ b c y t q. let h = took b c y t q in (h.1, h.0.masks k w (rw q l) ∙ ap (λ (ss : States). bit (get_or b.masks k 0) w || (bit (read y 1) w && eqb (read y 0) (get_or ss.numbers k 0))) q))
      left x a r along refl

  led-along : (k : ℕ) → bit r.led.bits k ≡ (bit a.led.bits k || any_of all (λ y. not (eqb (read y 1) 0) && stands_at a.states.numbers a.states.count (read y 0) k))
  led-along k =
      any-along LeavingTaken read 3 (λ b. bit b.led.bits k) Same (λ y. not (eqb (read y 1) 0) && stands_at a.states.numbers a.states.count (read y 0) k)
      (λ b c y t q. let h = took b c y t q in (h.1, rw q at (h.0.led k))) left x a r along refl

  once-along : (e : ℕ) → ltb r.once (2 ^ e) ≡ (ltb a.once (2 ^ e) && all_of all (λ y. ltb (read y 1) (2 ^ e)))
  once-along e =
      all-along LeavingTaken read 3 (λ b. ltb b.once (2 ^ e)) Same (λ y. ltb (read y 1) (2 ^ e))
      (λ b c y t q. let h = took b c y t q in (h.1, ap (λ o. ltb o (2 ^ e)) h.0.once ∙ or-below e b.once (read y 1))) left x a r along refl

  module _ (w : ℕ) (no-once : bit a.once w ≡ false) (no-twice : bit a.twice w ≡ false) where
    abbrev has : ℕ → Bool
    has y = bit (read y 1) w

    counted-along : (bit r.once w ≡ leb 1 (how_many all has)) × (bit r.twice w ≡ leb 2 (how_many all has))
    unfolding how_many
    counted-along =
        let whole : ℕ = how_many all has in
        let end = along-keeps LeavingTaken read 3
        (λ b ys. (done : ℕ) × Same b × (bit b.once w ≡ leb 1 done) × (bit b.twice w ≡ leb 2 done) × (whole ≡ done + how_many ys has))
        (λ b c y ys t h.
        let l = took b c y t h.1 in (
          h.0 + indicator (has y),
          l.1,
          ap (λ o. bit o w) l.0.once ∙ bit-or b.once (read y 1) w ∙ ap (λ z. z || has y) h.2 ∙ one_more h.0 (has y),
          l.0.twice w ∙ rw (h.2, h.3) (two-more h.0 (has y)),
          omega (arith, h.4),
        ))
        left x a r along (0, refl, no-once, no-twice, omega arith) in
        let e : end.0 ≡ whole = omega (arith, end.4) in
        (rw e at end.2, rw e at end.3)

  module _ (no_met : (k : ℕ) → bit a.met.bits k ≡ false) (fresh : a.fits ≡ true) where
    fits_along : r.fits ≡ (all_of all (λ y. on a.states.numbers a.states.count a.states.few (read y 0)) && distinct (map (λ y. read y 0) all))
    unfolding all_of any_of distinct
    fits_along =
        let fit = fitting a.states.numbers a.states.count a.states.few (λ y. read y 0) in
        let whole : Bool = fit (bit a.met.bits) all in
        let end = along-keeps LeavingTaken read 3 (λ b ys. Same b × (whole ≡ (b.fits && fit (bit b.met.bits) ys)))
        (λ b c y ys t h.
        let l = took b c y t h.0 in (
          l.1,
          h.1 ∙ fit-more a.states.numbers a.states.count a.states.few (λ y. read y 0) b.fits c.fits (bit b.met.bits) (bit c.met.bits) y ys (rw h.0 at l.0.met) (rw h.0 at l.0.fits),
        ))
        left x a r along (refl, rw fresh) in
        sym (fit_none a.states.numbers a.states.count a.states.few (λ y. read y 0) (bit a.met.bits) all no_met ∙ end.1 ∙ and-true r.fits)

-- from no transition, along those out of state q
pub leaves-along : (R : List ℕ) (q base x left : ℕ) (a r : Leaving) → base ≡ transitions_from (automata R) (states R) → x ≡ first_transition R q → left ≡ transitions R → length a.states.numbers ≡ chained_most
    → ((k : ℕ) → get_or a.masks k 0 ≡ 0) → ((k : ℕ) → bit a.met.bits k ≡ false) → ((k : ℕ) → bit a.led.bits k ≡ false) → a.once ≡ 0 → a.twice ≡ 0 → a.fits ≡ true
    → Until LeavingTaken Never (records (record_word R base transition_words) transition_words left x) a r → Leaves R a.states.numbers a.states.count q r
unfolding record_word transitions_fit leads
leaves-along R q base x left a r eb ex el room no-masks no_met no-led no-once no-twice fresh along =
    let read = transition_word R in
    let ways : Along LeavingTaken (records read transition_words (transitions R) (first_transition R q)) a r = rw (eb, ex, el) at (whole-way LeavingTaken Never (λ b d. d) (records (record_word R base transition_words) transition_words left x) a r along) in
    let ys = transitions_of R q in
    let count : (w : ℕ) → (bit r.once w ≡ leb 1 (how_many ys (λ y. bit (mask R y) w))) × (bit r.twice w ≡ leb 2 (how_many ys (λ y. bit (mask R y) w))) =
    λ w. counted-along read (transitions R) (first_transition R q) a r ways w (rw no-once (bit-none w)) (rw no-twice (bit-none w)) in
    record {
      fitting = λ v.
          rw (
            fits_along read (transitions R) (first_transition R q) a r ways no_met fresh,
            once-along read (transitions R) (first_transition R q) a r ways (2 ^ v),
            no-once,
            lt-ltb 0 (2 ^ (2 ^ v)) (pow_pos (2 ^ v)),
          ) (fitted (λ y. ltb (mask R y) (2 ^ (2 ^ v))) (λ y. on a.states.numbers a.states.count a.states.few (transition_target R y)) (λ y. member (transition_target R y) (take a.states.count a.states.numbers))
          (λ y. on-member a.states.numbers a.states.count a.states.few (omega (arith, room, a.states.few)) (transition_target R y)) ys (distinct (map (transition_target R) ys)));
      some = λ w. (count w).0;
      several = λ w. (count w).1;
      leading = λ k. led-along read (transitions R) (first_transition R q) a r ways k
          ∙ rw (no-led k) (any-guarded (ltb k a.states.count) (λ y. not (eqb (mask R y) 0)) (λ y. eqb (transition_target R y) (get_or a.states.numbers k 0)) ys);
      goes = λ k w l. masks-along read (transitions R) (first_transition R q) a r ways k w l ∙ rw (no-masks k, bit-none w);
    }
