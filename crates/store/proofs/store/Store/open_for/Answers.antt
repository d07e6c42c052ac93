use Rattle.store.proofs.Names.{◌∙◌, ap, refl, subst, rules, IsDatabase, Content, IsWanted, wanted_of, names_for}
use Rattle.sqlite.specs.Held.{state}
use Rattle.store.proofs.CrashOpenings.{left_ready, found_rest, refused_for, survives_again}
use Rattle.store.proofs.store.Store.open_for.Goals as goal

pub returns-in-Ok : goal.returns-in-Ok
returns-in-Ok g c =
    let wanted = wanted_of c.args.only in
    let s = state g.S.Store c.args.conn in
    let new = state g.S.Store c.enter.new.conn in
    record {
      opens = λ clean ready.
          let e = c.in-Ok.ensures.enters.entered clean ready tt in
          record { content = e.content; of = e.of; wanted = e.wanted; holds = record { whole = refl; executed = e.executed_is; rest = e.rest } };
      beside = λ clean ready. (c.in-Ok.ensures.enters.entered clean ready tt).beside;
      unchanged = λ clean ready. (c.in-Ok.ensures.enters.entered clean ready tt).same;
      turned = tt;
      refused = tt;
      spared = tt;
      headless = λ none some. let it = (c.in-Ok.ensures.headless none some).0 in absurd (cc);
      autocommit = tt;
      crash = λ ready. c.enter.ensures.enters.crash ready tt;
      left = tt;
      reopens = λ names content over clean.
          let sound : IsDatabase s.now = (c.enter.ensures.live over.is_open).0 in
          let e = c.in-Ok.ensures.enters.entered clean (left_ready (names_for wanted) names content s over.is_open over.settled sound over.left) tt in
          let it = found_rest (names_for wanted) names content s over.is_open over.settled sound over.left new _ e.content e.of e.rest in
          (record { whole = refl; executed = e.executed_is ∙ ap (λ (a : Content). a.executed) it.2; rest = it.1 }, it.0, subst (IsWanted wanted) it.0 e.wanted);
      leaves = λ names content over.
          let sound : IsDatabase s.now = (c.enter.ensures.live over.is_open).0 in
          survives_again (names_for wanted) names content s over.is_open over.settled sound over.left new
          (c.enter.ensures.enters.crash (left_ready (names_for wanted) names content s over.is_open over.settled sound over.left) tt);
      fault = tt;
      clean = λ clean. c.enter.ensures.enters.clean clean;
    }

pub returns-in-Err : goal.returns-in-Err
returns-in-Err g c =
    let wanted = wanted_of c.args.only in
    let s = state g.S.Store c.args.conn in
    let new = state g.S.Store c.enter.new.conn in
    record {
      opens = tt;
      beside = tt;
      unchanged = tt;
      turned = λ clean ready. c.in-Err.ensures.enters.turned clean ready tt;
      refused = λ clean settled. (c.in-Err.ensures.enters.spares.rested clean).rests settled;
      spared = c.in-Err.ensures.enters.spares.survives;
      headless = λ none some. let it = c.in-Err.ensures.headless none some in search (rules, it);
      autocommit = c.enter.ensures.enters.autocommit;
      crash = tt;
      left = λ ready. c.enter.ensures.enters.crash ready tt;
      reopens = λ names content over clean.
          let sound : IsDatabase s.now = (c.enter.ensures.live over.is_open).0 in
          refused_for wanted names content s sound over.left c.in-Err.fault new
          (c.in-Err.ensures.enters.turned clean (left_ready (names_for wanted) names content s over.is_open over.settled sound over.left) tt);
      leaves = λ names content over.
          let sound : IsDatabase s.now = (c.enter.ensures.live over.is_open).0 in
          survives_again (names_for wanted) names content s over.is_open over.settled sound over.left new
          (c.enter.ensures.enters.crash (left_ready (names_for wanted) names content s over.is_open over.settled sound over.left) tt);
      fault = c.in-Err.ensures.enters.fault;
      clean = λ clean. c.enter.ensures.enters.clean clean;
    }
