-- Entries as numbers and as operations; settled entries are a sound table
use Rattle.std.specs.Prelude.{Bool, ◌&&◌, cond, false, not, true, List, [], ◌∷◌, map, ◌≡◌, refl, ◌<◌, ◌≤◌, suc, zero, ℕ, eqb}
use Rattle.std.proofs.Common.{◌∙◌, ap, ap₂, sym, arith}
use Rattle.lists.specs.Lists.{All}
use Rattle.lists.specs.Truth.{never}
use Rattle.strict.specs.Commutativity.{changes}
use Rattle.strict.proofs.Laws.Soundness.{seen_alone}
use Rattle.strict.specs.Operations.{Op, inverse, kind, recovery}
use Rattle.strict.specs.Sound.{FreeAfter, SoundTable, seen}
use Rattle.strict.specs.declared.Procedure.{Procedure}
use Rattle.strict.specs.declared.Procedure.TheVariants.{Del, Ins, Mem}
use Rattle.strict.specs.declared.Rule.{Rule}
use Rattle.strict.specs.declared.Rule.TheVariants.{Alone, Together}
use Rattle.service.specs.Entry.{entry_of, found_of_kind, job_in, key_in, kind_in, op_in, pack_entry, procedure_of_kind, sheet_in}
use Rattle.service.specs.Sound.{AllSettled, Entry, MayStand, changing, left_for, seen_in}

-- a kind is one of six
pub by_kind : (P : ℕ → Type 0) → P 1 → P 2 → P 3 → P 4 → P 5 → P 6 → (n : ℕ) → 1 ≤ n → n ≤ 6 → P n
by_kind P a b c d e f zero l h = absurd (omega arith)
by_kind P a b c d e f (suc zero) l h = a
by_kind P a b c d e f (suc (suc zero)) l h = b
by_kind P a b c d e f (suc (suc (suc zero))) l h = c
by_kind P a b c d e f (suc (suc (suc (suc zero)))) l h = d
by_kind P a b c d e f (suc (suc (suc (suc (suc zero))))) l h = e
by_kind P a b c d e f (suc (suc (suc (suc (suc (suc zero)))))) l h = f
by_kind P a b c d e f (suc (suc (suc (suc (suc (suc (suc n))))))) l h = absurd (omega arith)

pub kind_range : (p : Procedure) (f : Bool) → (1 ≤ kind p f) × (kind p f ≤ 6)
kind_range Ins false = (omega arith, omega arith)
kind_range Ins true = (omega arith, omega arith)
kind_range Del true = (omega arith, omega arith)
kind_range Del false = (omega arith, omega arith)
kind_range Mem true = (omega arith, omega arith)
kind_range Mem false = (omega arith, omega arith)

-- the parts of an entry that was made
module _ (sheet n job key : ℕ) (m : n < 256) (j : job < 256) (k : key < 4294967296) where
  pub sheet_back : sheet_in (pack_entry sheet n job key) ≡ sheet
  sheet_back = omega arith

  pub kind_back : kind_in (pack_entry sheet n job key) ≡ n
  kind_back = omega arith

  pub job_back : job_in (pack_entry sheet n job key) ≡ job
  job_back = omega arith

  pub key_back : key_in (pack_entry sheet n job key) ≡ key
  key_back = omega arith

procedure_back : (p : Procedure) (f : Bool) → procedure_of_kind (kind p f) ≡ p
procedure_back Ins false = refl
procedure_back Ins true = refl
procedure_back Del true = refl
procedure_back Del false = refl
procedure_back Mem true = refl
procedure_back Mem false = refl

found_back : (p : Procedure) (f : Bool) → found_of_kind (kind p f) ≡ f
found_back Ins false = refl
found_back Ins true = refl
found_back Del true = refl
found_back Del false = refl
found_back Mem true = refl
found_back Mem false = refl

pub op_back : (u : Op) → u.job < 256 → u.key < 4294967296 → u.done ≡ false → op_in (entry_of u) ≡ u
op_back u j k d i =
    let n = kind u.proc u.found in
    let m : n < 256 = omega (arith, (kind_range u.proc u.found).1) in
    let e = kind_back u.sheet n u.job u.key m j k in
    record {
      job = job_back u.sheet n u.job u.key m j k i;
      proc = (ap procedure_of_kind e ∙ procedure_back u.proc u.found) i;
      key = key_back u.sheet n u.job u.key m j k i;
      found = (ap found_of_kind e ∙ found_back u.proc u.found) i;
      done = sym d i;
      sheet = sheet_back u.sheet n u.job u.key m j k i;
    }

-- and what was read, written back
entry_back : (marks : List Bool) (e : ℕ) → Entry marks e → entry_of (op_in e) ≡ e
entry_back marks e h =
    let n : kind (procedure_of_kind (kind_in e)) (found_of_kind (kind_in e)) ≡ kind_in e =
    by_kind (λ n. kind (procedure_of_kind n) (found_of_kind n) ≡ n) refl refl refl refl refl refl (kind_in e) h.kind_low h.kind_high in
    ap (λ n. pack_entry (sheet_in e) n (job_in e) (key_in e)) n ∙ omega arith

pub entries_back : (marks : List Bool) (es : List ℕ) → All (Entry marks) es → map entry_of (map op_in es) ≡ es
entries_back marks [] h = refl
entries_back marks (e ∷ es) h = ap₂ {C = List ℕ} (λ y ys. y ∷ ys) (entry_back marks e h.0) (entries_back marks es h.1)

-- SETTLED ENTRIES
free_of_later : (r : Rule) (e : ℕ) (es : List ℕ) → All (MayStand r e) es → FreeAfter r (op_in e) (map op_in es)
free_of_later r e [] h = tt
free_of_later Alone e (f ∷ es) h = (h.0, free_of_later Alone e es h.1)
free_of_later Together e (f ∷ es) h = (h.0, free_of_later Together e es h.1)

later_free : (r : Rule) (e : ℕ) (es : List ℕ) → FreeAfter r (op_in e) (map op_in es) → All (MayStand r e) es
later_free r e [] h = tt
later_free Alone e (f ∷ es) h = (h.0, later_free Alone e es h.1)
later_free Together e (f ∷ es) h = (h.0, later_free Together e es h.1)

module _ (marks : List Bool) (e : ℕ) (h : Entry marks e) where
  pub changes_kind : changes (inverse (op_in e)) ≡ changing (kind_in e)
  changes_kind =
      by_kind (λ n. changes (recovery (procedure_of_kind n) (found_of_kind n)) ≡ changing n) refl refl refl refl refl refl (kind_in e) h.kind_low h.kind_high

  as_left_kind : (m : Bool) → (kind_in e ≡ 1 → m ≡ true) → (kind_in e ≡ 3 → m ≡ false) → changes (inverse (op_in e)) ≡ true
      → m ≡ not (found_of_kind (kind_in e))
  as_left_kind m =
      by_kind (λ n. (n ≡ 1 → m ≡ true) → (n ≡ 3 → m ≡ false) → changes (recovery (procedure_of_kind n) (found_of_kind n)) ≡ true → m ≡ not (found_of_kind n))
      (λ a b c. a refl) (λ a b c. never (sym c)) (λ a b c. b refl) (λ a b c. never (sym c)) (λ a b c. never (sym c)) (λ a b c. never (sym c))
      (kind_in e) h.kind_low h.kind_high

-- what a tile was for the later entries
seen_in_lem : (marks : List Bool) (k : ℕ) (es t : List ℕ) → All (Entry marks) es → seen k (map op_in es) t ≡ seen_in k es t
seen_in_lem marks k [] t h = refl
seen_in_lem marks k (f ∷ es) t h =
    ap (cond (changes (inverse (op_in f)) && eqb k (key_in f)) (found_of_kind (kind_in f))) (seen_in_lem marks k es t h.1)
    ∙ by_kind
    (λ n. cond (changes (recovery (procedure_of_kind n) (found_of_kind n)) && eqb k (key_in f)) (found_of_kind n) (seen_in k es t)
    ≡ cond (changing n && eqb k (key_in f)) (eqb n 3) (seen_in k es t))
    refl refl refl refl refl refl (kind_in f) h.0.kind_low h.0.kind_high

seen_left : (r : Rule) (marks : List Bool) (t : List ℕ) (e : ℕ) (es : List ℕ) → All (Entry marks) es → FreeAfter r (op_in e) (map op_in es)
    → seen (key_in e) (map op_in es) t ≡ left_for r (key_in e) es t
seen_left Alone marks t e es h f = seen_alone (op_in e) (map op_in es) t f
seen_left Together marks t e es h f = seen_in_lem marks (key_in e) es t h

pub settled_sound : (r : Rule) (marks : List Bool) (t es : List ℕ) → All (Entry marks) es → AllSettled r t es → SoundTable r t (map op_in es)
settled_sound r marks t [] h s = tt
settled_sound r marks t (e ∷ es) h s =
    let u = op_in e in
    let own : changes (inverse u) ≡ true → FreeAfter r u (map op_in es) =
    λ c. free_of_later r e es (s.0.own_tile (sym (changes_kind marks e h.0) ∙ c)) in (
      record {
        unfinished_entry = refl;
        as_left_lem = λ c. seen_left r marks t e es h.1 (own c) ∙ as_left_kind marks e h.0 (left_for r (key_in e) es t) s.0.present s.0.absent c;
        own_tile = own;
      },
      settled_sound r marks t es h.1 s.1,
    )

pub sound_settled : (r : Rule) (marks : List Bool) (t es : List ℕ) → All (Entry marks) es → SoundTable r t (map op_in es) → AllSettled r t es
sound_settled r marks t [] h s = tt
sound_settled r marks t (e ∷ es) h s = (
  record {
    present = λ n. left (ap (λ x. changes (recovery (procedure_of_kind x) (found_of_kind x))) n) ∙ ap (λ x. not (found_of_kind x)) n;
    absent = λ n. left (ap (λ x. changes (recovery (procedure_of_kind x) (found_of_kind x))) n) ∙ ap (λ x. not (found_of_kind x)) n;
    own_tile = λ c. later_free r e es (s.0.own_tile (changes_kind marks e h.0 ∙ c));
  },
  sound_settled r marks t es h.1 s.1,
)
  where
    left : changes (inverse (op_in e)) ≡ true → left_for r (key_in e) es t ≡ not (found_of_kind (kind_in e))
    left c = sym (seen_left r marks t e es h.1 (s.0.own_tile c)) ∙ s.0.as_left_lem c
