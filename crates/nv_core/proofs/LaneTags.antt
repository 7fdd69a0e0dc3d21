-- A lane's tags behind its type: what its calls look up and change.
use Rattle.std.proofs.Common.{◌≡◌, ℕ, ◌<◌, ◌≤◌, ◌⊎◌, inl, inr, Bool, List, length, set, slice_get, Option, Some, None, arith, refl, sym, ap, ◌∙◌, subst, get_or}
use Rattle.std.proofs.lemmas.Bool.{cases_eq}
use Rattle.std.proofs.lemmas.Option.{slice_get_read}
use Rattle.nv_core.specs.Tags.{AreLed, AreUsed, IsUsed, IsWhole, command_at, state_in, tag_made, tags_of}
use Rattle.nv_core.specs.declared.progress.Progress.{Progress}
use Rattle.nv_core.specs.declared.progress.Progress.TheVariants as progress
use Rattle.nv_core.proofs.TagLists.{IsKept, IsNext, get-other, get-set, made-at, slot-got, tags-command, tags-kept, tags-past, tags-set, tags-state, used-set}
use Rattle.nv_laws_sound.proofs.Lists.{length-set, set-same, some-same}
use Rattle.nv_model.specs.Transcript.{ReadDone}
use Rattle.nv_tags.specs.Tags.{Point, Slot, command_in, slot_at, state_at, with_point}
use Rattle.nv_tags.specs.Tags as slot
use Rattle.nv_tags.specs.declared.state.TagState.TheVariants as state
use Rattle.nv_world_model.specs.Area.{tag_count}
use Rattle.nv_world_model.specs.World.{Command, Ended, Flying, Free, Lane, Tag, Taken, tag_changed}

-- ---- a tag that is taken

pub record IsTakenTag (t : Option Tag) : Type 0 where
  pub command : Command
  pub reads : List ReadDone
  pub is : t ≡ Some (Taken command reads)

pub taken-tag : (t : Option Tag) → state_in t ≡ Some state.Taken → IsTakenTag t
taken-tag None e = cc
taken-tag (Some Free) e = cc
taken-tag (Some (Taken command reads)) e = record { command = command; reads = reads; is = refl }
taken-tag (Some (Flying command share at)) e = cc
taken-tag (Some (Ended command st share)) e = cc

-- its slot, and what is kept of it
taken-kept : (kept : List Progress) (s : Slot) (p : Progress) (command : Command) (reads : List ReadDone) → IsUsed kept s p
    → tag_made kept s p ≡ Taken command reads → (s ≡ slot.Used command slot.Taken) × (p ≡ progress.Reading reads)
taken-kept kept slot.Free p command reads is e = cc
taken-kept kept (slot.Used c slot.Taken) progress.Nothing command reads is e = absurd is
taken-kept kept (slot.Used c slot.Taken) (progress.Reading others) command reads is e =
    let same : c ≡ command = cc in
    (ap (λ (d : Command). slot.Used d slot.Taken) same, ap progress.Reading (reading others reads e))
  where
    reading : (others reads : List ReadDone) → Taken c others ≡ Taken command reads → others ≡ reads
    reading others reads same = cc
taken-kept kept (slot.Used c slot.Taken) (progress.Going plan) command reads is e = absurd is
taken-kept kept (slot.Used c slot.Taken) (progress.Over plan) command reads is e = absurd is
taken-kept kept (slot.Used c slot.Taken) (progress.Part part) command reads is e = absurd is
taken-kept kept (slot.Used c slot.Taken) (progress.PartOver part) command reads is e = absurd is
taken-kept kept (slot.Used c slot.Flying) p command reads is e =
    let at = made-at kept c slot.Flying p is in
    let other : Taken command reads ≡ Flying c at.0 at.1.0 = sym e ∙ at.1.1 in cc
taken-kept kept (slot.Used c (slot.Ended st)) p command reads is e =
    let at = made-at kept c (slot.Ended st) p is in
    let other : Taken command reads ≡ Ended c st at.0 = sym e ∙ at.1 in cc

pub record IsTakenAt (slots : List Slot) (ps : List Progress) (tag : ℕ) : Type 0 where
  pub command : Command
  pub reads : List ReadDone
  pub below : tag < length slots
  pub is : slice_get (tags_of slots ps) tag ≡ Some (Taken command reads)
  pub there : slice_get slots tag ≡ Some (slot.Used command slot.Taken)
  pub slot_is : slot_at slots tag ≡ slot.Used command slot.Taken
  pub progress_is : slice_get ps tag ≡ Some (progress.Reading reads)

pub taken-at : (slots : List Slot) (ps : List Progress) (tag : ℕ) → AreUsed ps slots
    → state_in (slice_get (tags_of slots ps) tag) ≡ Some state.Taken → IsTakenAt slots ps tag
taken-at slots ps tag are e =
    let t = taken-tag (slice_get (tags_of slots ps) tag) e in
    let k = tags-kept slots ps tag (Taken t.command t.reads) t.is in
    let both = taken-kept ps k.slot k.progress t.command t.reads (are tag k.slot k.progress k.slot_is k.progress_is) k.made in
    let there : slice_get slots tag ≡ Some (slot.Used t.command slot.Taken) = k.slot_is ∙ ap (λ (s : Slot). Some s) both.0 in
    record {
      command = t.command;
      reads = t.reads;
      below = k.below;
      is = t.is;
      there = there;
      slot_is = slot-got slots tag (slot.Used t.command slot.Taken) there;
      progress_is = k.progress_is ∙ ap (λ (p : Progress). Some p) both.1;
    }

-- what is kept of a tag, as it is read
pub progress-at : (ps : List Progress) (tag i : ℕ) (p q : Progress) → tag < length ps → slice_get ps tag ≡ Some q → i ≡ tag → p ≡ get_or ps i p → p ≡ q
progress-at ps tag i p q below there number has =
    some-same p q
    (sym (subst (λ (k : ℕ). slice_get ps k ≡ Some p) number (slice_get_read ps (length ps) i p refl (omega arith) has)) ∙ there)

-- ---- whose tags are

-- commands stay where they are
pub led-stays : (slots new : List Slot) → AreLed slots → ((i : ℕ) → command_in (slot_at new i) ≡ command_in (slot_at slots i)) → AreLed new
led-stays slots new led same tag command is =
    let its = led tag command (sym (same tag) ∙ is) in
    record { low = its.low; same = same command.leader ∙ its.same }

pub led-set : (slots : List Slot) (tag : ℕ) (s : Slot) → AreLed slots → tag < length slots → command_in s ≡ command_in (slot_at slots tag)
    → AreLed (set slots tag s)
led-set slots tag s led below whose = led-stays slots (set slots tag s) led (λ i. by i (cases_eq i tag))
  where
    by : (i : ℕ) → (i ≡ tag) ⊎ (i ≡ tag → ⊥) → command_in (slot_at (set slots tag s) i) ≡ command_in (slot_at slots i)
    by i (inl here) =
        ap (λ (n : ℕ). command_in (slot_at (set slots tag s) n)) here
        ∙ ap (λ (o : Option Slot). command_in (slot.slot_or_free o)) (get-set slots tag s below)
        ∙ whose ∙ sym (ap (λ (n : ℕ). command_in (slot_at slots n)) here)
    by i (inr apart) = ap (λ (o : Option Slot). command_in (slot.slot_or_free o)) (get-other slots tag i s apart)

-- the slot of a tag that is at another point now
pub moved-slot : (slots : List Slot) (tag : ℕ) (command : Command) (before point : Point) → slot_at slots tag ≡ slot.Used command before
    → with_point point tag slots ≡ set slots tag (slot.Used command point)
moved-slot slots tag command before point is = ap (λ (s : Slot). set slots tag (slot.moved_to point s)) is

module _ (head : ℕ) (phase : Bool) (slots : List Slot) (ps : List Progress) (old : Lane) (whole : IsWhole head slots ps)
    (view : (let l : Lane = record { head = head; phase = phase; tags = tags_of slots ps } in l) ≡ old) where
  pub same : length slots ≡ length ps
  same = whole.slots_are ∙ sym whole.progress_is

  pub seen : tags_of slots ps ≡ old.tags
  seen = ap (λ (l : Lane). l.tags) view

  -- the point of a tag
  pub lane-state : (tag : ℕ) → tag < tag_count → Some (state_at slots tag) ≡ state_in (slice_get old.tags tag)
  lane-state tag below =
      sym (tags-state slots ps tag same whole.used (let n = whole.slots_are in omega arith))
      ∙ ap (λ (ts : List Tag). state_in (slice_get ts tag)) seen

  pub lane-past : (tag : ℕ) → tag_count ≤ tag → None ≡ state_in (slice_get old.tags tag)
  lane-past tag past =
      sym (tags-past slots ps tag (let n = whole.slots_are in omega arith)) ∙ ap (λ (ts : List Tag). state_in (slice_get ts tag)) seen

  -- a tag that is taken
  pub lane-taken : (tag : ℕ) → state_in (slice_get old.tags tag) ≡ Some state.Taken → IsTakenAt slots ps tag
  lane-taken tag e = taken-at slots ps tag whole.used (ap (λ (ts : List Tag). state_in (slice_get ts tag)) seen ∙ e)

  -- the command of a tag
  pub lane-command : (tag : ℕ) (command : Command) → command_at (slice_get old.tags tag) ≡ Some command → command_in (slot_at slots tag) ≡ Some command
  lane-command tag command e = tags-command slots ps tag command whole.used (ap (λ (ts : List Tag). command_at (slice_get ts tag)) seen ∙ e)

  pub lane-kept : (tag : ℕ) (t : Tag) → slice_get old.tags tag ≡ Some t → IsKept slots ps tag t
  lane-kept tag t there = tags-kept slots ps tag t (ap (λ (ts : List Tag). slice_get ts tag) seen ∙ there)

  pub progress-below : (tag : ℕ) → tag < length slots → tag < length ps
  progress-below tag below = (let e = same in omega arith)

  -- a tag that is changed
  pub lane-whole : (tag i : ℕ) (s : Slot) (p : Progress) (t : Tag) (new : List Slot) → i ≡ tag → new ≡ set slots tag s → IsNext slots ps tag s p t
      → AreLed (set slots tag s) → IsWhole head new (set ps i p)
  lane-whole tag i s p t new at is next led =
      subst (λ (k : ℕ). IsWhole head new (set ps k p)) (sym at)
      (subst (λ (n : List Slot). IsWhole head n (set ps tag p)) (sym is)
      (record {
        head_is = whole.head_is;
        slots_are = length-set slots tag s ∙ whole.slots_are;
        progress_is = length-set ps tag p ∙ whole.progress_is;
        used = used-set slots ps same whole.used tag s p t next;
        led = led;
      }))

  pub lane-changed : (tag i : ℕ) (s : Slot) (p : Progress) (t : Tag) (new : List Slot) → i ≡ tag → new ≡ set slots tag s → IsNext slots ps tag s p t
      → (let l : Lane = record { head = head; phase = phase; tags = tags_of new (set ps i p) } in l) ≡ tag_changed tag t old
  lane-changed tag i s p t new at is next =
      ap (λ (k : ℕ). let l : Lane = record { head = head; phase = phase; tags = tags_of new (set ps k p) } in l) at
      ∙ ap (λ (n : List Slot). let l : Lane = record { head = head; phase = phase; tags = tags_of n (set ps tag p) } in l) is
      ∙ ap (λ (ts : List Tag). let l : Lane = record { head = head; phase = phase; tags = ts } in l) (tags-set slots ps same whole.used tag s p t next)
      ∙ ap (tag_changed tag t) view

  -- one command and one transcript are those of a tag
  pub same-taken : (tag : ℕ) (command : Command) (reads : List ReadDone) → (at : IsTakenAt slots ps tag) → slice_get old.tags tag ≡ Some (Taken command reads)
      → (at.command ≡ command) × (at.reads ≡ reads)
  same-taken tag command reads at e =
      let both = some-same (Taken at.command at.reads) (Taken command reads) (sym at.is ∙ ap (λ (ts : List Tag). slice_get ts tag) seen ∙ e) in
      ((cc), (cc))

  -- a tag that is taken has no plan
  pub taken-next : (tag : ℕ) (s : Slot) (p : Progress) (t : Tag) → IsTakenAt slots ps tag → IsUsed ps s p → tag_made ps s p ≡ t → IsNext slots ps tag s p t
  taken-next tag s p t at used made =
      record {
        below = at.below;
        before = progress.Reading at.reads;
        before_is = at.progress_is;
        stays = λ plan none. (cc);
        used = used;
        made = made;
      }

  pub taken-led : (tag : ℕ) (point : Point) → (at : IsTakenAt slots ps tag) → AreLed (set slots tag (slot.Used at.command point))
  taken-led tag point at =
      led-set slots tag (slot.Used at.command point) whole.led at.below (sym (ap command_in at.slot_is))

  -- a tag whose transcript is another now
  read-slot : (tag : ℕ) → (at : IsTakenAt slots ps tag) → slots ≡ set slots tag (slot.Used at.command slot.Taken)
  read-slot tag at = sym (set-same slots tag (slot.Used at.command slot.Taken) at.there)

  pub reading-at : (tag i : ℕ) (p : Progress) → (at : IsTakenAt slots ps tag) → i ≡ tag → p ≡ get_or ps i p → p ≡ progress.Reading at.reads
  reading-at tag i p at number has =
      progress-at ps tag i p (progress.Reading at.reads) (progress-below tag at.below) at.progress_is number has

  read-next : (tag : ℕ) (p : Progress) (reads : List ReadDone) → (at : IsTakenAt slots ps tag) → p ≡ progress.Reading reads
      → IsNext slots ps tag (slot.Used at.command slot.Taken) p (Taken at.command reads)
  read-next tag p reads at is =
      taken-next tag (slot.Used at.command slot.Taken) p (Taken at.command reads) at
      (subst (λ (q : Progress). IsUsed ps (slot.Used at.command slot.Taken) q) (sym is) tt)
      (ap (λ (q : Progress). tag_made ps (slot.Used at.command slot.Taken) q) is)

  pub read-whole : (tag i : ℕ) (p : Progress) (reads : List ReadDone) → IsTakenAt slots ps tag → i ≡ tag → p ≡ progress.Reading reads → IsWhole head slots (set ps i p)
  read-whole tag i p reads at number is =
      lane-whole tag i (slot.Used at.command slot.Taken) p (Taken at.command reads) slots number (read-slot tag at) (read-next tag p reads at is) (taken-led tag slot.Taken at)

  pub read-changed : (tag i : ℕ) (p : Progress) (reads : List ReadDone) → (at : IsTakenAt slots ps tag) → i ≡ tag → p ≡ progress.Reading reads
      → (let l : Lane = record { head = head; phase = phase; tags = tags_of slots (set ps i p) } in l) ≡ tag_changed tag (Taken at.command reads) old
  read-changed tag i p reads at number is =
      lane-changed tag i (slot.Used at.command slot.Taken) p (Taken at.command reads) slots number (read-slot tag at) (read-next tag p reads at is)
