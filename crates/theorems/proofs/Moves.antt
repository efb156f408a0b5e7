-- A bound on one place of every clock of a world, through the moves of a turn. The words are in specs/Moves.antt.
use Rattle.std.proofs.Common.{◌∙◌, arith, length-set}
use Rattle.std.specs.Prelude.{◌≢◌, List, ℕ, ◌≤◌, ◌<◌}
use Rattle.clocks.specs.Clock.{max_threads, inc_of}
use Rattle.clocks.specs.declared.clock.Clock.{Clock}
use Rattle.clocks.specs.declared.thread.ThreadId.{ThreadId}
use Rattle.rules.specs.declared.object.ObjectId.{ObjectId}
use Rattle.rules.specs.declared.object.Entry.{Entry}
use Rattle.rules.specs.declared.thread.Phase.{Phase}
use Rattle.rules.specs.declared.thread.Phase.TheVariants.{Nothing}
use Rattle.rules.specs.declared.thread.Thread.{Thread}
use Rattle.rules.specs.declared.table.Call.{Call}
use Rattle.rules.specs.declared.table.Op.{Op}
use Rattle.rules.specs.declared.world.World.{World}
use Rattle.rules.specs.Ground.{absent, thread_at, put_thread}
use Rattle.rules.specs.Object.{new_entry, no_object, put_entry}
use Rattle.rules.specs.Effect.{last_dependent_access, effect}
use Rattle.rules.specs.Turn.{thread_in, entry_in, dependence, operate}
use Rattle.theorems.proofs.All.{all_set, all_put}
use Rattle.theorems.specs.Each.{version, accessed, recorded, dependent, in_effect}
use Rattle.theorems.specs.Kept.{Object, One, Raises}
use Rattle.theorems.proofs.Kept.{object_more, threads_more, last_version, access_recorded, effect-kept}
use Rattle.theorems.specs.Place.{At}
use Rattle.theorems.proofs.Place.{zero_at, join_at_most}
use Rattle.theorems.specs.Moves.{Clocks}

module _ (k : ℕ) where
  -- a clock within a bound is within a larger one
  more_at : (b c : ℕ) → b ≤ c → (x : Clock) → At k b x → At k c x
  more_at b c l x h = omega (arith, l, h)

  -- larger bounds
  pub more : (b c b' c' : ℕ) (M : ℕ → ℕ → Phase → Type 0) (ts : List Thread) (es : List Entry) → b ≤ b' → c ≤ c' → Clocks k b c M ts es → Clocks k b' c' M ts es
  more b c b' c' M ts es l m h =
      record {
        threads = threads_more (At k b) (At k c) (At k b') (At k c') M (more_at b b' l) (more_at c c' m) ts h.threads;
        objects = λ i. object_more (At k b) (At k c) (At k b') (At k c') (more_at b b' l) (more_at c c' m) _ (h.objects i);
      }

  -- other marks, as each thread has them
  pub marks : (b c : ℕ) (M N : ℕ → ℕ → Phase → Type 0) (ts : List Thread) (es : List Entry)
      → ((j : ℕ) → M j (thread_at ts (record { 0 = j })).position (thread_at ts (record { 0 = j })).phase → N j (thread_at ts (record { 0 = j })).position (thread_at ts (record { 0 = j })).phase)
      → Clocks k b c M ts es → Clocks k b c N ts es
  marks b c M N ts es f h = record { threads = (h.threads.0, λ j. ((h.threads.1 j).0, (h.threads.1 j).1, f j (h.threads.1 j).2)); objects = h.objects }

  -- a thread is put
  pub put : (b c : ℕ) (M N : ℕ → ℕ → Phase → Type 0) (t : ThreadId) → t.0 < max_threads → ((j q : ℕ) (f : Phase) → j ≢ t.0 → M j q f → N j q f)
      → (ts : List Thread) (es : List Entry) (x : Thread) → Clocks k b c M ts es → One (At k b) (At k c) N t.0 x → Clocks k b c N (put_thread ts t x) es
  put b c M N t within on ts es x h p =
      record {
        threads = (
          length-set ts t.0 x ∙ h.threads.0,
          all_put (One (At k b) (At k c) M) (One (At k b) (At k c) N) absent ts t.0 x (omega (arith, within, h.threads.0)) (λ j y n i. (i.0, i.1, on j y.position y.phase n i.2)) h.threads.1 p,
        );
        objects = h.objects;
      }

  -- an object is put
  pub place : (b c : ℕ) (M : ℕ → ℕ → Phase → Type 0) (ts : List Thread) (es : List Entry) (o : ObjectId) (e : Entry) → Clocks k b c M ts es → Object (At k b) (At k c) e → Clocks k b c M ts (put_entry es o e)
  place b c M ts es o e h x = record { threads = h.threads; objects = all_set (λ i. Object (At k b) (At k c)) (new_entry no_object) es o.0 e h.objects x }

  -- an effect, where an own count that rises is at most b'
  pub effect_at : (b b' c : ℕ) → b ≤ b' → (t : ThreadId) (M : ℕ → ℕ → Phase → Type 0) (call : Call) → (Raises call → (x : Clock) → At k b x → At k b' (inc_of x t)) → (o : ObjectId) (e : Entry) (ts : List Thread) (es : List Entry)
      → Clocks k b c M ts es → Object (At k b) (At k c) e → Clocks k b' c M (effect call t o e ts).threads (put_entry es o (effect call t o e ts).entry)
  effect_at b b' c l t M call own o e ts es h x =
      let g = more b c b' c M ts es l (omega arith) h in
      let r = effect-kept (At k b') (At k c) (join_at_most k b') (zero_at k b') (At k b) t M call own o e ts (h.threads.1 t.0).0 g.threads
      (object_more (At k b) (At k c) (At k b') (At k c) (more_at b b' l) (λ y p. p) e x) in
      record { threads = r.0; objects = all_set (λ i. Object (At k b') (At k c)) (new_entry no_object) es o.0 _ g.objects r.1 }

  -- before the effect of an announced operation: its dependence count rises, to c' at most
  module _ (b c c' : ℕ) (l : c ≤ c') (t : ThreadId) (own : (x : Clock) → At k c x → At k c' (inc_of x t)) (M N : ℕ → ℕ → Phase → Type 0) (within : t.0 < max_threads)
      (on : (j q : ℕ) (f : Phase) → j ≢ t.0 → M j q f → N j q f) (w : World) (h : Clocks k b c M w.threads w.objects) (here : N t.0 (thread_in w t).position Nothing) (op : Op) where
    version_at : At k c' (version t op w)
    unfolding dependence
    version_at =
        own _
        (join_at_most k c (thread_in w t).dependence (last_dependent_access op.call (entry_in w op.object)).version (h.threads.1 t.0).1
        (last_version (At k b) (At k c) (zero_at k b) (zero_at k c) op.call (entry_in w op.object) (h.objects op.object.0)))

    pub dependent_at : Clocks k b c' N (dependent t op w) w.objects
    dependent_at =
        put b c' M N t within on w.threads w.objects _ (more b c b c' M w.threads w.objects (omega arith) l h) ((h.threads.1 t.0).0, version_at, here)

    recorded_at : Object (At k b) (At k c') (recorded t op w)
    recorded_at =
        access_recorded (At k b) (At k c') op.call (accessed t op w) (entry_in w op.object) version_at
        (object_more (At k b) (At k c) (At k b) (At k c') (λ y p. p) (more_at c c' l) (entry_in w op.object) (h.objects op.object.0))

    -- and in effect
    pub in_effect_at : (b' : ℕ) → b ≤ b' → (Raises op.call → (x : Clock) → At k b x → At k b' (inc_of x t)) → Clocks k b' c' N (in_effect t op w).threads (in_effect t op w).objects
    unfolding operate
    in_effect_at b' m raise = effect_at b b' c' m t N op.call raise op.object (recorded t op w) (dependent t op w) w.objects dependent_at recorded_at
