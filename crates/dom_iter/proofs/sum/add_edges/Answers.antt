use Rattle.std.proofs.Common.{◌<◌, ◌+◌, ◌^◌, ℕ, get_or, length, drop, map, refl, ap, ◌∙◌, sym, subst, arith}
use Rattle.std.proofs.lemmas.List.{length-map}
use Rattle.std.proofs.lemmas.List.Elements.{All-get_or}
use Rattle.std.proofs.lemmas.Result.{err_from_is_err_and}
use Rattle.prog_theory.specs.Edges.{Edge}
use Rattle.prog_theory.specs.Each.{EachOp}
use Rattle.prog_theory.specs.Fits.{FitsOp}
use Rattle.prog_theory.specs.Within.{IsNumberWithin}
use Rattle.prog_graph.specs.Views.{edge_of}
use Rattle.dom_theory.specs.Outcomes.{Gives}
use Rattle.dom_theory.specs.Sums.{Adds, AddsAll}
use Rattle.dom_iter.specs.Comes.{StopsAt}
use Rattle.dom_core.specs.Views.{spot_of}
use Rattle.dom_iter.proofs.Comes.{StopsAt-in}
use Rattle.dom_iter.proofs.Adding.{Adds-vars}
use Rattle.dom_iter.proofs.Into.{edge_at, AddsNumbers, AddsAll-numbers, AddsNumbers-more, AddsNumbers-stops, number_within, number_target, edge_is}
use Rattle.dom_iter.proofs.sum.add_edges.Goals as goal

pub loop-k-init : goal.loop-k-init
loop-k-init g c =
    let D = g.D.Domain.relations in
    let value = λ (q : ℕ). get_or c.args.values.now q (D.bottom c.args.vars) in
    let E = map edge_of c.args.edges.now in
    record {
      reads = λ r h. AddsAll-numbers D (spot_of c.args.spot) value E c.args.begun r
          (subst (λ js. AddsNumbers D (spot_of c.args.spot) value E js c.args.begun r) c.requires.into h);
      vars = c.requires.vars;
    }

pub bounds-edges-number : goal.bounds-edges-number
bounds-edges-number g c =
    omega (
      arith,
      number_within c.args.spot.point (map edge_of c.args.edges.now) c.args.into.now c.loop-k.k
          (get_or c.args.into.now c.loop-k.k 0) c.requires.into (omega arith) refl,
      length-map c.args.edges.now edge_of,
    )

pub add_edge-requires-clause-here : goal.add_edge-requires-clause-here
add_edge-requires-clause-here g c =
    let E = map edge_of c.args.edges.now in
    let j = get_or c.args.into.now c.loop-k.k 0 in
    let within = number_within c.args.spot.point E c.args.into.now c.loop-k.k j c.requires.into (omega arith) refl in
    sym (ap (λ (e : Edge). e.to) (edge_is c.args.edges.now j within))
    ∙ number_target c.args.spot.point E c.args.into.now c.loop-k.k j c.requires.into (omega arith) refl

pub add_edge-requires-clause-from : goal.add_edge-requires-clause-from
add_edge-requires-clause-from g c =
    let E = map edge_of c.args.edges.now in
    let j = get_or c.args.into.now c.loop-k.k 0 in
    let within = number_within c.args.spot.point E c.args.into.now c.loop-k.k j c.requires.into (omega arith) refl in
    subst (λ (e : Edge). e.from < length c.args.values.now) (edge_is c.args.edges.now j within)
    (All-get_or (λ (e : Edge). e.from < length c.args.values.now) E j _ within c.requires.from)

pub add_edge-requires-clause-fits : goal.add_edge-requires-clause-fits
add_edge-requires-clause-fits g c =
    let E = map edge_of c.args.edges.now in
    let j = get_or c.args.into.now c.loop-k.k 0 in
    let within = number_within c.args.spot.point E c.args.into.now c.loop-k.k j c.requires.into (omega arith) refl in
    subst (λ (e : Edge). FitsOp c.args.vars e.op) (edge_is c.args.edges.now j within)
    (All-get_or (λ (e : Edge). FitsOp c.args.vars e.op) E j _ within c.requires.fits)

pub add_edge-requires-clause-numbers : goal.add_edge-requires-clause-numbers
add_edge-requires-clause-numbers g c =
    let E = map edge_of c.args.edges.now in
    let j = get_or c.args.into.now c.loop-k.k 0 in
    let within = number_within c.args.spot.point E c.args.into.now c.loop-k.k j c.requires.into (omega arith) refl in
    subst (λ (e : Edge). EachOp (λ x. Unit {0}) (IsNumberWithin (2 ^ 31 + 1)) e.op) (edge_is c.args.edges.now j within)
    (All-get_or (λ (e : Edge). EachOp (λ x. Unit {0}) (IsNumberWithin (2 ^ 31 + 1)) e.op) E j _ within
    c.requires.numbers)

pub returns-in_err-sum : goal.returns-in_err-sum
returns-in_err-sum g c =
    let D = g.D.Domain.relations in
    let spot = spot_of c.args.spot in
    let value = λ (q : ℕ). get_or c.args.values.now q (D.bottom c.args.vars) in
    let E = map edge_of c.args.edges.now in
    let k = c.loop-k.k in
    let js = c.args.into.now in
    let j = get_or js k 0 in
    let err = c.in_err-sum.field-0.0 in
    let within = number_within c.args.spot.point E js k j c.requires.into (omega arith) refl in
    let adds = subst (λ e. StopsAt (Adds D spot value j e c.loop-k.sum) err) (sym (edge_is c.args.edges.now j within))
    c.in_err-sum.ensures in
    let p = err_from_is_err_and c.from_residual.result c.from_residual.ensures.1 in
    rw (p.1, p.2) (StopsAt-in (AddsNumbers D spot value E (drop k js) c.loop-k.sum)
    (AddsAll D spot value 0 E c.args.begun) (λ s h. c.loop-k.invariant.reads _ h) err
    (AddsNumbers-stops D spot value E k js j c.loop-k.sum err (omega arith) refl adds))

pub loop-k-preserved : goal.loop-k-preserved
loop-k-preserved g c =
    let D = g.D.Domain.relations in
    let spot = spot_of c.args.spot in
    let value = λ (q : ℕ). get_or c.args.values.now q (D.bottom c.args.vars) in
    let E = map edge_of c.args.edges.now in
    let k = c.loop-k.k in
    let js = c.args.into.now in
    let j = get_or js k 0 in
    let in_range : k < length js = omega arith in
    let within = number_within c.args.spot.point E js k j c.requires.into in_range refl in
    let adds = subst (λ e. Adds D spot value j e c.loop-k.sum (Gives c.in_ok-sum.sum))
    (sym (edge_is c.args.edges.now j within)) c.in_ok-sum.ensures in
    record {
      reads = λ r h. c.loop-k.invariant.reads r
          (AddsNumbers-more D spot value E k js j c.loop-k.sum c.in_ok-sum.sum r in_range refl adds h);
      vars = Adds-vars D spot value j (edge_at E j) c.loop-k.sum c.in_ok-sum.sum c.args.vars g.met.D.Domain.laws.vars
          c.loop-k.invariant.vars
          (c.requires.values (edge_at E j).from
          (All-get_or (λ (e : Edge). e.from < length c.args.values.now) E j _ within c.requires.from)) adds;
    }
