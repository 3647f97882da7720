-- What each test of an open and of an end decides
use Rattle.std.specs.Prelude.{Bool, cond, false, true, List, [], ◌++◌, ◌∷◌, ◌≡◌, refl, eqb, ◌*◌, ◌+◌, ◌<◌, ◌≤◌, ℕ}
use Rattle.std.proofs.Common.{◌∙◌, ap, sym, le-ltb, lt-ltb}
use Rattle.lists.specs.Truth.{never}
use Rattle.service.specs.Told.{Refusal, decided, bare}
use Rattle.service.specs.declared.Told.{Told}
use Rattle.service.specs.Admission.{is_open, open_marks}
use Rattle.service.specs.Calls.{end_refusals, open_refusals}
use Rattle.service.specs.Limits.{last_job, short_size}
use Rattle.service.specs.Sound.{sound_B}
use Rattle.service.specs.World.{World, free_bytes, state}

-- refusals that stand one after another
pub decided_append : (rs qs : List Refusal) (t : Told) → decided (rs ++ qs) t ≡ decided rs (decided qs t)
decided_append [] qs t = refl
decided_append (r ∷ rs) qs t = ap (cond r.applies r.says) (decided_append rs qs t)

-- what a list with a number for each refusal decides, it decides whatever follows it
pub gate_refuses : (rs : List Refusal) (t u : Told) → eqb t.number 0 ≡ true → eqb (decided rs t).number 0 ≡ false → decided rs t ≡ decided rs u
gate_refuses [] t u z n = never (sym z ∙ n)
gate_refuses (r ∷ rs) t u z n = go r.applies n (gate_refuses rs t u z)
  where
    go : (b : Bool) → eqb (cond b r.says (decided rs t)).number 0 ≡ false → (eqb (decided rs t).number 0 ≡ false → decided rs t ≡ decided rs u)
        → cond b r.says (decided rs t) ≡ cond b r.says (decided rs u)
    go true n ih = refl
    go false n ih = ih n

module _ (w : World) (job : ℕ) (t : Told) where
  -- an open
  pub open_unsound : sound_B w ≡ false → bare 1 ≡ decided (open_refusals w job) t
  open_unsound h = rw h

  pub end_unsound : sound_B w ≡ false → bare 1 ≡ decided (end_refusals w job) t
  end_unsound h = rw h

  module _ (sound : sound_B w ≡ true) where
    pub open_no_job : last_job < job → bare 2 ≡ decided (open_refusals w job) t
    open_no_job h = rw (sound, lt-ltb last_job job h)

    pub end_no_job : last_job < job → bare 2 ≡ decided (end_refusals w job) t
    end_no_job h = rw (sound, lt-ltb last_job job h)

    module _ (small : job ≤ last_job) where
      pub open_already : is_open (state w) job ≡ true → bare 4 ≡ decided (open_refusals w job) t
      open_already h = rw (sound, le-ltb last_job job small, h)

      pub end_closed : is_open (state w) job ≡ false → bare 3 ≡ decided (end_refusals w job) t
      end_closed h = rw (sound, le-ltb last_job job small, h)

      pub end_done : is_open (state w) job ≡ true → t ≡ decided (end_refusals w job) t
      end_done h = rw (sound, le-ltb last_job job small, h)

      module _ (closed : is_open (state w) job ≡ false) where
        pub open_no_room : free_bytes w < 4 + 4 * (open_marks w.session.marks + 1) → bare 9 ≡ decided (open_refusals w job) t
        open_no_room h = rw (sound, le-ltb last_job job small, closed, lt-ltb (free_bytes w) (short_size + short_size * (open_marks w.session.marks + 1)) h)

        pub open_done : 4 + 4 * (open_marks w.session.marks + 1) ≤ free_bytes w → t ≡ decided (open_refusals w job) t
        open_done h = rw (sound, le-ltb last_job job small, closed, le-ltb (free_bytes w) (short_size + short_size * (open_marks w.session.marks + 1)) h)
