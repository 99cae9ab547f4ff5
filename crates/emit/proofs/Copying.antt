-- The steps of a copy of cells into buffers, one cell after another.
use Rattle.std.proofs.Common.{◌≡◌, ℕ, ◌+◌, ◌<◌, ◌≤◌, ◌≢◌, not, is_none, List, ◌++◌, map, length, get_or, drop, set, sym, refl, ap, ◌∙◌, arith, Option, None}
use Rattle.std.proofs.lemmas.List.{get_or-map, get_or-set_other, get_or-set_same, length-map}
use Rattle.bitmap.specs.Bits.{bytes_for, valid_at}
use Rattle.bitmap.specs.Maps.{MapWritten}
use Rattle.records.specs.Lists.{cell_valid, cue_of}
use Rattle.emit.specs.declared.cells.CellBuffers.{CellBuffers}
use Rattle.emit.specs.Buffers.{SameBuffers}
use Rattle.emit.specs.Marks.{Clear, Marked}
use Rattle.emit.proofs.Marking.{Within, clear_rows, marked_clear, within_more, within_none, written_bits}
use Rattle.emit.proofs.Placing.{Upto, front_all, upto_more, upto_none}

pub same_refl : {K : Type 0} (b : CellBuffers K) → SameBuffers b b
same_refl b = record { map = refl; map_length = refl; cues = refl; cues_length = refl }

pub same_more : {K : Type 0} (a b c : CellBuffers K) → SameBuffers a b → SameBuffers b c → SameBuffers a c
same_more a b c v w = record {
  map = w.map ∙ v.map;
  map_length = w.map_length ∙ v.map_length;
  cues = w.cues ∙ v.cues;
  cues_length = w.cues_length ∙ v.cues_length;
}

-- the first p cells are written, and the buffers are as they were past them
pub record Copied {K : Type 0} (blank : K) (cells : List (Option K)) (p : ℕ) (before now : CellBuffers K) : Type 0 where
  pub same : SameBuffers before now
  pub cues : Upto (λ k. cue_of blank (get_or cells k None)) p (λ k. get_or now.cues.now k blank) (λ k. get_or before.cues.now k blank)
  pub marks : Upto (cell_valid cells) p (valid_at now.map.now) (valid_at before.map.now)
  pub within : Within (length cells) before.map.now now.map.now

module _ {K : Type 0} (blank : K) (cells : List (Option K)) (before : CellBuffers K) (clear : Clear (length cells) before.map.now) where
  pub copied_none : Copied blank cells 0 before before
  copied_none = record {
    same = same_refl before;
    cues = upto_none (λ k. cue_of blank (get_or cells k None)) (λ k. get_or before.cues.now k blank);
    marks = upto_none (cell_valid cells) (valid_at before.map.now);
    within = within_none (length cells) before.map.now clear;
  }

  module _ (room : length cells ≤ length before.cues.now) where
    pub copied_more : (p more : ℕ) (now next : CellBuffers K) (cell : Option K) → more ≡ p + 1 → p < length cells → cell ≡ get_or cells p None → Copied blank cells p before now
        → SameBuffers now next → Marked (not (is_none cell)) p now.map.now next.map.now → next.cues.now ≡ set now.cues.now p (cue_of blank cell)
        → Copied blank cells more before next
    copied_more p more now next cell step inside is w same marked cues = record {
      same = same_more before now next w.same same;
      cues =
          upto_more (λ k. cue_of blank (get_or cells k None)) p more (λ k. get_or now.cues.now k blank) (λ k. get_or before.cues.now k blank) (λ k. get_or next.cues.now k blank) step w.cues
          (ap (λ z. get_or z p blank) cues ∙ get_or-set_same now.cues.now p (cue_of blank cell) blank (omega (arith, w.same.cues_length)) ∙ ap (cue_of blank) is)
          (λ i ne. (let ne2 : i ≢ p = ne in ap (λ z. get_or z i blank) cues ∙ get_or-set_other now.cues.now p i (cue_of blank cell) blank ne2));
      marks =
          upto_more (cell_valid cells) p more (valid_at now.map.now) (valid_at before.map.now) (valid_at next.map.now) step w.marks
          (marked_clear _ p now.map.now next.map.now marked (w.marks.rest p (omega arith) ∙ clear_rows (length cells) before.map.now clear p (omega arith)) ∙ ap (λ z. not (is_none z)) is)
          marked.others;
      within = within_more _ p (length cells) before.map.now now.map.now next.map.now inside w.within marked;
    }

    pub copied_cues : (now : CellBuffers K) → Copied blank cells (length cells) before now → now.cues.now ≡ map (cue_of blank) cells ++ drop (length cells) before.cues.now
    copied_cues now w =
        front_all (length cells) (map (cue_of blank) cells) now.cues.now before.cues.now blank (length-map cells (cue_of blank)) w.same.cues_length room
        (λ k h. w.cues.reads k h ∙ sym (get_or-map (cue_of blank) cells k None blank h)) w.cues.rest

  pub copied_marks : (now : CellBuffers K) → bytes_for (length cells) ≤ length before.map.now → Copied blank cells (length cells) before now → MapWritten (cell_valid cells) (length cells) before.map.now now.map.now
  copied_marks now room w =
      written_bits (cell_valid cells) (length cells) before.map.now now.map.now w.same.map_length room w.within w.marks.reads
      (λ k past h. w.marks.rest k past ∙ clear_rows (length cells) before.map.now clear k h)
