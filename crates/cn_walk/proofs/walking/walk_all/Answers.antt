use Rattle.cn_walk.proofs.Common.{rules, ◌<◌, [], ◌∙◌, arith, All-drop, Client}
use Rattle.cn_walk.proofs.Walks.{IsHeld, none_by, stays, walked, walks-on}
use Rattle.std.proofs.lemmas.List.{nil_from_length}
use Rattle.cn_walk.proofs.walking.walk_all.Goals as goal

pub loop-rest-preserved : goal.loop-rest-preserved
loop-rest-preserved g c =
    let was = c.loop-rest.invariant in
    let came = c.fill_hand.ensures in
    let out = c.sweep_out.ensures in
    let cut = c.split_at.ensures in
    let inside : Client → Type 0 = λ k. k.entry < c.args.floor.now.start.network.table.entries in
    record {
      home = out.walked.home ∙ came.walked.home ∙ was.home;
      out = out.out;
      nobody = out.nobody;
      entries = rw cut.back (All-drop inside c.min.result c.loop-rest.rest.now was.entries);
      quota = omega (arith, was.quota, came.walked.quota, out.walked.quota, cut.front_len, cut.back_len);
      room = omega (arith, was.room, came.walked.room, out.walked.room, cut.front_len, cut.back_len);
      spare = omega (arith, was.spare, was.out, came.walked.records, out.walked.records, out.out, cut.front_len, cut.back_len);
      walks = λ last w. was.walks last
          (rw cut.by_index.0 (walks-on _ _ _ _ _ came.walked (walks-on _ _ _ [] _ out.walked w)));
    }

pub loop-rest-init : goal.loop-rest-init
loop-rest-init g c =
    let held : IsHeld c.args.lane = assumption c.lane_laws.ensures in
    record {
      home = c.requires.own;
      out = c.requires.out;
      nobody = none_by c.args.lane held c.requires.out;
      entries = c.requires.entries;
      quota = c.requires.quota;
      room = c.requires.room;
      spare = c.requires.spare;
      walks = λ last w. w;
    }

pub returns-clause-walked : goal.returns-clause-walked
returns-clause-walked g c =
    let held : IsHeld c.args.lane = assumption c.lane_laws.ensures in
    let was = c.loop-rest.invariant in
    let none = nil_from_length c.loop-rest.rest.now (search rules) in
    walked c.args.lane c.loop-rest.lane c.args.clients.now
    (was.walks c.loop-rest.lane (rw none (stays c.loop-rest.lane))) was.out
    (none_by c.args.lane held c.requires.out) was.nobody
