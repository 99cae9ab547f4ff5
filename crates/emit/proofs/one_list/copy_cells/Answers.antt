-- A record's cell goes behind those of its group that came before it.
use Rattle.std.proofs.Common.{◌≡◌, ℕ, ◌+◌, ◌<◌, ◌≤◌, get_or, take, sym, ap, ◌∙◌, subst, arith, rules, None}
use Rattle.std.proofs.lemmas.List.{length-take, take_all}
use Rattle.records.specs.Records.{list_of}
use Rattle.emit.proofs.Copying.{Copied, copied_cues, copied_marks, copied_more, copied_none}
use Rattle.emit.proofs.Sorting.{place_of, size_le, size_len, size_no, size_yes, size_of}
use Rattle.emit.proofs.one_list.copy_cells.Goals as goal
use Rattle.emit.proofs.one_list.copy_cells.Goals.{then-r-j, else-r-j}

pub loop-r-init : goal.loop-r-init
loop-r-init g c = record { place = omega arith; copied = copied_none g.K.Keyed.empty (list_of c.args.j c.args.records.now) c.args.cells.now c.requires.clear }

pub put-requires : goal.put-requires
put-requires g c =
    let key = ap (λ r. r.group) c.r-item.is in
    let more = size_yes c.args.records.now c.args.j c.loop-r.r-index c.r-item.result c.loop-r-test.true (omega (arith, c.if-r-j.true)) in
    let inside : c.loop-r.p < size_of c.args.records.now c.args.j = omega (arith, size_le c.args.records.now c.args.j (c.loop-r.r-index + 1)) in
    record { cue = omega arith; mark = omega arith }

pub overflow_add-p : goal.overflow_add-p
overflow_add-p g c =
    let h : c.loop-r.p ≤ c.loop-r.r-index = omega (arith, size_len (take c.loop-r.r-index c.args.records.now) c.args.j, length-take c.loop-r.r-index c.args.records.now) in
    search rules

pub loop-r-preserved : goal.loop-r-preserved
loop-r-preserved g c =
    let key = ap (λ r. r.group) c.r-item.is in
    elim c.if-r-j.branch [
      | then-r-j w ↦
          (let here : (get_or c.args.records.now c.loop-r.r-index c.r-item.result).group ≡ c.args.j = omega (arith, w.if-r-j.true) in
          let more = size_yes c.args.records.now c.args.j c.loop-r.r-index c.r-item.result c.loop-r-test.true here in
          let inside : c.loop-r.p < size_of c.args.records.now c.args.j = omega (arith, size_le c.args.records.now c.args.j (c.loop-r.r-index + 1)) in
          let cell : c.r-item.result.cell ≡ get_or (list_of c.args.j c.args.records.now) c.loop-r.p None =
          ap (λ r. r.cell) c.r-item.is ∙ sym (place_of c.args.records.now c.args.j c.loop-r.r-index c.r-item.result c.loop-r-test.true here)
          ∙ ap (λ (k : ℕ). get_or (list_of c.args.j c.args.records.now) k None) (sym c.loop-r.invariant.place) in
          record {
            place = omega (arith, w.p-is);
            copied =
                subst (Copied g.K.Keyed.empty (list_of c.args.j c.args.records.now) c.if-r-j.p c.args.cells.now) (sym w.cells-is)
                (copied_more g.K.Keyed.empty (list_of c.args.j c.args.records.now) c.args.cells.now c.requires.clear c.requires.room c.loop-r.p c.if-r-j.p c.loop-r.cells w.put.new.self c.r-item.result.cell
                w.p-is inside cell c.loop-r.invariant.copied w.put.ensures.same w.put.ensures.map w.put.ensures.cues);
          })
      | else-r-j w ↦ record {
        place = omega (arith, w.p-is, size_no c.args.records.now c.args.j c.loop-r.r-index c.r-item.result c.loop-r-test.true (λ e. omega (arith, w.if-r-j.false)));
        copied =
            subst (Copied g.K.Keyed.empty (list_of c.args.j c.args.records.now) c.if-r-j.p c.args.cells.now) (sym w.cells-is)
            (subst (λ (k : ℕ). Copied g.K.Keyed.empty (list_of c.args.j c.args.records.now) k c.args.cells.now c.loop-r.cells) (sym w.p-is) c.loop-r.invariant.copied);
      }
    ]

pub returns : goal.returns
returns g c =
    let all : c.loop-r.p ≡ size_of c.args.records.now c.args.j = c.loop-r.invariant.place ∙ ap (λ z. size_of z c.args.j) (take_all c.loop-r.r-index c.args.records.now c.loop-r-test.false) in
    let w = subst (λ (k : ℕ). Copied g.K.Keyed.empty (list_of c.args.j c.args.records.now) k c.args.cells.now c.loop-r.cells) all c.loop-r.invariant.copied in
    record {
      same = w.same;
      cues = copied_cues g.K.Keyed.empty (list_of c.args.j c.args.records.now) c.args.cells.now c.requires.clear c.requires.room c.loop-r.cells w;
      marks = copied_marks g.K.Keyed.empty (list_of c.args.j c.args.records.now) c.args.cells.now c.requires.clear c.loop-r.cells c.requires.bytes w;
    }
