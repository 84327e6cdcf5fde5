-- THE FORMAT, EXACTLY. Decoding accepts the bytes that are good commands one after the other and then 00, and no others, and gives what they
-- declare. A command is good exactly if it is read without a fault, whatever follows it; a list of them is read command by command.
use Prim.Native.Nat.{ℕ, zero, suc, pred, ◌+◌, ◌≤◌, ◌<◌}
use native.Mathlib.Omega.{arith}
use mathlib.Core.Path.{◌≡◌, refl, sym, ap, subst, ◌∙◌}
use mathlib.Core.Logic.{◌↔◌}
use mathlib.Core.Bool.{Bool, true, false, not, cond, ◌&&◌, ◌||◌}
use mathlib.Core.List.{List, [], ◌∷◌, ◌++◌}
use mathlib.Core.Option.{Option, none, some, some-ne-none}
use lib.ListN.{length, take, drop, length-append, take-append-drop, get_or-append}
use lib.Seq.{get_or-take, length-take-le}
use lib.Dec.{ltb, eqb}
use borrow.Author.Tests.{le-ltb, lt-ltb, lt-leb, eqb-true, eqb-false, ne_eqb}
use Rattle.sequences.specs.Results.{ok, refused, and_then}
use Rattle.sequences.proofs.Results.{ok-inj, ok-not-refused, and_then-ok, cond-ok}
use Rattle.sequences.proofs.Tests.{cond_ind, cond-none, or-fails}
use Rattle.labels.specs.Labels.{no_label}
use Rattle.description.specs.declared.workflow.Way.{Way}
use Rattle.description.specs.declared.workflow.Way.TheVariants.{Reads, Writes}
use Rattle.description.specs.Declarations.{Description, nothing, block, names_block, names_cloud}
use Rattle.decoding.specs.Format.{u8_at, edge_in, pair_in, Command, cloud_at, datum_at, service_at, edge_at, pin_at, pair_at}
use Rattle.decoding.specs.Format.{unknown, command_at, first_fault, fault_of, ended, read_from, inhabited, decode}
use Rattle.decoding.specs.Commands.{EdgeGood, PairGood, Takes, Declares, written, Describe, Meets}
use Rattle.decoding.specs.Commands.Takes.{cloud, datum, service, reads, writes, pin, pair}
use Rattle.decoding.proofs.Commands.{Faultless, cloud-taken, datum-taken, service-taken, edge-taken, pin-taken, pair-taken}
use Rattle.decoding.proofs.Plain.{names-datum, names-service, no_pin, no-clashes, no-same-pairs}
use Rattle.decoding.proofs.Prefix.{Agree, command-by, fault-by}
use Rattle.decoding.proofs.Turns.{width_positive, whole, ends, fails, goes}

-- ---- one command that is read

-- the bytes c are one command, whole and with no fault
abbrev Read : List ℕ → Description → Type 0
Read c d = (length c ≡ (command_at c d).width) × (fault_of c (command_at c d) ≡ none)

-- the bytes after the first byte of a command are skipped
passes : (c rest : List ℕ) (at : ℕ) (d : Description) → read_from (c ++ rest) (length c) at d ≡ read_from rest 0 (at + length c) d
passes [] rest at d = ap (λ n. read_from rest 0 n d) (omega arith)
passes (b ∷ c) rest at d = passes c rest (suc at) d ∙ ap (λ n. read_from rest 0 n d) (omega arith)

-- 00 is no command
not_end : (b : ℕ) (c : List ℕ) (d : Description) → fault_of (b ∷ c) (command_at (b ∷ c) d) ≡ none → eqb b 0 ≡ false
not_end b c d e = ne_eqb b 0 (λ z. bad (rw z at e))
  where
    bad : fault_of (0 ∷ c) (unknown d) ≡ none → ⊥
    bad q = some-ne-none 2 (cond-none (ltb (length (0 ∷ c)) 1) 1 (some 2) q).1

-- A good command, whatever follows it, is taken, and reading continues after it.
takes : (c rest : List ℕ) (at : ℕ) (d : Description) → Read c d
    → read_from (c ++ rest) 0 at d ≡ read_from rest 0 (at + length c) (command_at c d).after
takes [] rest at d r = let p = width_positive [] d in absurd (omega (arith, r.0))
takes (b ∷ c) rest at d r =
    goes b (c ++ rest) at d (not_end b c d r.1)
    (sym (fault-by short long d agree (omega arith) (omega (arith, length-append short rest))) ∙ r.1) ∙
    ap (λ x. read_from (c ++ rest) (pred x.width) (suc at) x.after) (sym (command-by short long d agree)) ∙
    ap (λ k. read_from (c ++ rest) k (suc at) (command_at short d).after) (omega (arith, r.0)) ∙
    passes c rest (suc at) (command_at short d).after ∙
    ap (λ n. read_from rest 0 n (command_at short d).after) (omega arith)
  where
    short : List ℕ
    short = b ∷ c

    long : List ℕ
    long = b ∷ (c ++ rest)

    agree : Agree short long (command_at short d).width
    agree i h = sym (get_or-append short rest 0 i (omega (arith, r.0)))

-- ---- a command is good exactly if it is read

faultless-none : (fs : List (ℕ × Bool)) → Faultless fs → first_fault fs ≡ none
faultless-none [] h = refl
faultless-none (f ∷ fs) h = rw h.0 (faultless-none fs h.1)

or-both : (a b : Bool) → a ≡ false → b ≡ false → (a || b) ≡ false
or-both a b e f = rw (e, f) refl

not-both : (a b : Bool) → a ≡ true → b ≡ true → not (a && b) ≡ false
not-both a b e f = rw (e, f) refl

module _ {c : List ℕ} {d : Description} where
  edge-faultless : (w : Way) → EdgeGood c d w → Faultless (edge_at w c d).faults
  edge-faultless w g =
      let named = not-both _ _ ((names-service d (u8_at c 1)).1 g.service) ((names-datum d (u8_at c 2)).1 g.datum) in
      let fresh = (no-clashes d (edge_in w c)).1 (λ n h. (g.new n h, λ v. g.only_writer v n h)) in
      (lt-leb _ _ g.room, (named, (fresh, tt)))

  edge-good : (w : Way) → fault_of c (edge_at w c d) ≡ none → EdgeGood c d w
  edge-good w f =
      let t = edge-taken c d w f in
      let free = (no-clashes d (edge_in w c)).0 t.fresh in
      record {
        room = t.room;
        service = (names-service d _).0 t.service;
        datum = (names-datum d _).0 t.datum;
        new = λ n h. (free n h).0;
        only_writer = λ v n h. (free n h).1 v;
      }

  pair-faultless : PairGood c d → Faultless (pair_at c d).faults
  pair-faultless g =
      let named = not-both _ _ ((names-datum d (u8_at c 1)).1 g.left) ((names-datum d (u8_at c 2)).1 g.right) in
      let fresh = (no-same-pairs d (pair_in c)).1 (λ n h. (g.new n h, g.new_turned n h)) in
      (lt-leb _ _ g.room, (named, (or-both _ _ (ne_eqb _ _ g.two) fresh, tt)))

  pair-good : fault_of c (pair_at c d) ≡ none → PairGood c d
  pair-good f =
      let t = pair-taken c d f in
      let free = (no-same-pairs d (pair_in c)).0 t.fresh in
      record {
        room = t.room;
        left = (names-datum d _).0 t.left;
        right = (names-datum d _).0 t.right;
        two = eqb-false _ _ t.two;
        new = λ n h. (free n h).0;
        new_turned = λ n h. (free n h).1;
      }

module _ (c : List ℕ) (d : Description) where
  good : (x : Command) → command_at c d ≡ x → length c ≡ x.width → Faultless x.faults → Read c d
  good x e w f = rw e (w, faultless-none ((1, ltb (length c) x.width) ∷ x.faults) (le-ltb (length c) x.width (omega arith), f))

  -- the bytes are read as the command that they are, and it declares the same
  takes-read : (e : Description) → Takes c d e → Read c d × (e ≡ (command_at c d).after)
  takes-read e (cloud z w g q) =
      let same : command_at c d ≡ cloud_at c d = rw z refl in
      (good (cloud_at c d) same w (lt-leb _ _ g.room, (le-ltb _ _ g.label, tt)), rw same q)
  takes-read e (datum z w g q) =
      let same : command_at c d ≡ datum_at c d = rw z refl in
      (good (datum_at c d) same w (lt-leb _ _ g.room, (le-ltb _ _ g.label, tt)), rw same q)
  takes-read e (service z w g q) =
      let same : command_at c d ≡ service_at c d = rw z refl in
      let labels = or-both (no_label (u8_at c 1)) (no_label (u8_at c 2)) (le-ltb _ _ g.location) (le-ltb _ _ g.clearance) in
      (good (service_at c d) same w (lt-leb _ _ g.room, (labels, tt)), rw same q)
  takes-read e (reads z w g q) =
      let same : command_at c d ≡ edge_at Reads c d = rw z refl in
      (good (edge_at Reads c d) same w (edge-faultless Reads g), rw same q)
  takes-read e (writes z w g q) =
      let same : command_at c d ≡ edge_at Writes c d = rw z refl in
      (good (edge_at Writes c d) same w (edge-faultless Writes g), rw same q)
  takes-read e (pin z w g q) =
      let same : command_at c d ≡ pin_at c d = rw z refl in
      let named = not-both (names_block d (u8_at c 1)) (names_cloud d (u8_at c 2)) (lt-ltb _ _ g.block) (lt-ltb _ _ g.cloud) in
      (good (pin_at c d) same w (named, ((no_pin _).1 g.free, tt)), rw same q)
  takes-read e (pair z w g q) =
      let same : command_at c d ≡ pair_at c d = rw z refl in
      (good (pair_at c d) same w (pair-faultless g), rw same q)

  -- a command that is read is good, and takes d to what is read of it
  read-takes : Read c d → Takes c d (command_at c d).after
  read-takes r = by_first r.0 r.1
    where
      Is : Command → Type 0
      Is x = length c ≡ x.width → fault_of c x ≡ none → Takes c d x.after

      first : (n : ℕ) → eqb (u8_at c 0) n ≡ true → u8_at c 0 ≡ n
      first n z = eqb-true (u8_at c 0) n z

      -- one of the seven, by its first byte
      either : (n : ℕ) (x y : Command) → (u8_at c 0 ≡ n → Is x) → Is y → Is (cond (eqb (u8_at c 0) n) x y)
      either n x y f g = cond_ind Is (eqb (u8_at c 0) n) x y (λ z. f (first n z)) (λ _. g)

      by_first : Is (command_at c d)
      by_first =
          either 1 _ _ (λ z w f. let t = cloud-taken c d f in cloud z w (record { room = t.room; label = t.low }) refl)
          (either 2 _ _ (λ z w f. let t = datum-taken c d f in datum z w (record { room = t.room; label = t.low }) refl)
          (either 3 _ _ (λ z w f.
          let t = service-taken c d f in
          service z w (record { room = t.room; location = t.low; clearance = t.low_clearance }) refl)
          (either 4 _ _ (λ z w f. reads z w (edge-good Reads f) refl)
          (either 5 _ _ (λ z w f. writes z w (edge-good Writes f) refl)
          (either 6 _ _ (λ z w f.
          let t = pin-taken c d f in
          pin z w (record { block = t.block; cloud = t.cloud; free = (no_pin (block d (u8_at c 1)).pin).0 t.free }) refl)
          (either 7 _ _ (λ z w f. pair z w (pair-good f) refl)
          (λ w f. absurd (some-ne-none 2 (cond-none (ltb (length c) 1) 1 (some 2) f).1))))))))

-- the bytes within the width of a command that is read are a good command
first-takes : (b : ℕ) (rest : List ℕ) (d : Description) → let x = command_at (b ∷ rest) d in fault_of (b ∷ rest) x ≡ none
    → Takes (b ∷ take (pred x.width) rest) d x.after
first-takes b rest d q =
    subst (Takes c d) (ap (λ y. y.after) (sym same))
    (read-takes c d (long ∙ ap (λ y. y.width) same, sym (fault-by s c d agree fits (omega (arith, long))) ∙ q))
  where
    s : List ℕ
    s = b ∷ rest

    w : ℕ
    w = (command_at s d).width

    c : List ℕ
    c = b ∷ take (pred w) rest

    some_byte : 1 ≤ w
    some_byte = width_positive s d

    fits : w ≤ length s
    fits = whole s (command_at s d) q

    long : length c ≡ w
    long = omega (arith, some_byte, fits, length-take-le (pred w) rest (omega (arith, some_byte, fits)))

    agree : Agree s c w
    agree i h = sym (get_or-take (suc (pred w)) s i 0 (omega arith))

    same : command_at s d ≡ command_at c d
    same = command-by s c d agree

-- ---- a list of commands

-- good commands and then 00 are read to their end
listed-read : (cs : List (List ℕ)) (at : ℕ) (d e : Description) → Declares cs d e → read_from (written cs) 0 at d ≡ ok e
listed-read [] at d e h = ends 0 [] at d refl ∙ ap ok h
listed-read (c ∷ cs) at d e (f, t, h) =
    let (r, q) = takes-read c d f t in
    takes c (written cs) at d r ∙ ap (read_from (written cs) 0 (at + length c)) (sym q) ∙ listed-read cs (at + length c) f e h

-- bytes from some offset on are good commands and then 00
abbrev Listed : List ℕ → (d e : Description) → Type 0
Listed s d e = (cs : List (List ℕ)) × (s ≡ written cs) × Declares cs d e

-- if it is read to its end, the input from the next command on is good commands and then 00
read-listed : (s : List ℕ) (skip at : ℕ) (d e : Description) → read_from s skip at d ≡ ok e → Listed (drop skip s) d e
read-listed [] skip at d e h = absurd (ok-not-refused (sym h))
read-listed (b ∷ rest) (suc skip) at d e h = read-listed rest skip (suc at) d e h
read-listed (b ∷ rest) zero at d e h =
    one (eqb b 0) (fault_of s x) refl refl (read-listed rest (pred x.width) (suc at) x.after e)
  where
    s : List ℕ
    s = b ∷ rest

    x : Command
    x = command_at s d

    c : List ℕ
    c = b ∷ take (pred x.width) rest

    at-end : (l : List ℕ) → ended l (suc at) d ≡ ok e → (l ≡ []) × (d ≡ e)
    at-end [] q = (refl, ok-inj q)
    at-end (y ∷ l) q = absurd (ok-not-refused (sym q))

    one : (z : Bool) (f : Option ℕ) → eqb b 0 ≡ z → fault_of s x ≡ f
        → (read_from rest (pred x.width) (suc at) x.after ≡ ok e → Listed (drop (pred x.width) rest) x.after e) → Listed s d e
    one true f z q next =
        let (l, k) = at-end rest (sym (ends b rest at d z) ∙ h) in
        ([], ap (λ n. n ∷ rest) (eqb-true b 0 z) ∙ ap (λ r. 0 ∷ r) l, k)
    one false (some n) z q next = absurd (ok-not-refused (sym (sym (fails b rest at d z q) ∙ h)))
    one false none z q next =
        let (cs, l, k) = next (sym (goes b rest at d z q) ∙ h) in
        let cut = sym (take-append-drop (pred x.width) rest) ∙ ap (λ r. take (pred x.width) rest ++ r) l in
        (c ∷ cs, ap (λ r. b ∷ r) cut, (x.after, first-takes b rest d q, k))

pos-of-ne : {n : ℕ} → (n ≡ 0 → ⊥) → 0 < n
pos-of-ne h = omega arith

-- ---- the two directions

-- for the writer: a list of good commands that has a cloud and a block, then 00, is accepted, and declares what the commands do
pub listed-decodes : (cs : List (List ℕ)) (d : Description) → Describe cs d → decode (written cs) ≡ ok d
unfolding decode
listed-decodes cs d h =
    ap (λ r. and_then r (inhabited (length (written cs)))) (listed-read cs 0 nothing d h.declares) ∙
    ap (λ b. cond b (refused 8 (length (written cs))) (ok d)) (or-both _ _ (filled h.some_cloud) (filled h.some_block))
  where
    filled : {n : ℕ} → 0 < n → eqb n 0 ≡ false
    filled {n} p = ne_eqb n 0 (λ z. omega arith)

-- for the reader: whatever is accepted is such a list
pub decodes-listed : (s : List ℕ) (d : Description) → decode s ≡ ok d → Meets s d
unfolding decode
decodes-listed s d h =
    let (f, r, i) = (and_then-ok (read_from s 0 0 nothing) (inhabited (length s)) d).0 h in
    let (none-missing, q) = cond-ok (eqb (length f.clouds) 0 || eqb (length f.blocks) 0) 8 (length s) (ok f) d i in
    let (c, b) = or-fails (eqb (length f.clouds) 0) (eqb (length f.blocks) 0) none-missing in
    let same = ok-inj q in
    let (cs, l, k) = read-listed s 0 0 nothing f r in (
      cs,
      l,
      record {
        declares = subst (Declares cs nothing) same k;
        some_cloud = subst (λ (x : Description). 0 < length x.clouds) same (pos-of-ne (eqb-false _ _ c));
        some_block = subst (λ (x : Description). 0 < length x.blocks) same (pos-of-ne (eqb-false _ _ b));
      },
    )

-- both
pub decodes-exactly : (s : List ℕ) (d : Description) → (decode s ≡ ok d) ↔ Meets s d
decodes-exactly s d = (decodes-listed s d, λ (cs, e, h). ap decode e ∙ listed-decodes cs d h)
