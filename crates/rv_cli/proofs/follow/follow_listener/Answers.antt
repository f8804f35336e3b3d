use Rattle.std.proofs.Common.{List, [], ◌∷◌, ◌++◌, refl, sym, ap, ◌∙◌, arith, inl, inr}
use Rattle.rv_net.specs.declared.conn.Conn.{Conn}
use Rattle.rv_cli.specs.FollowPromise.{no_line_yet}
use Rattle.rv_cli.proofs.follow.follow_listener.Goals as goal

pub returns-in-Conn : goal.returns-in-Conn
returns-in-Conn g c =
    let told = c.done.ensures.tells in
    let given = c.in-Conn.ensures.given in
    let ended = c.follow_conn-ended.ensures in record {
      now = ended.now;
      follows = (
        λ t. c.in-Conn.ensures.tells (told t),
        inl (record {
          old = c.in-Conn.conn;
          new = c.follow_conn-ended.new.conn;
          follows = ended.follows;
          first = λ t. (given (told t)).0 ∙ ap (λ (conns : List (Conn g.row.L-In.Denot g.row.L-Out.Denot)). c.in-Conn.conn ∷ conns) (sym (c.done.ensures.to_come t));
          back = λ t. c.done.ensures.back t ∙ ap (λ (conns : List (Conn g.row.L-In.Denot g.row.L-Out.Denot)). conns ++ c.follow_conn-ended.new.conn ∷ []) (c.in-Conn.ensures.back (told t));
          out = λ t. omega (arith, (given (told t)).1, c.done.ensures.out t);
          ends = c.done.ensures.ends ∙ c.in-Conn.ensures.ends;
        }),
      );
      length = ended.length;
    }

pub returns-in-End : goal.returns-in-End
returns-in-End g c =
    let given = c.in-End.ensures.given in record {
      now = no_line_yet;
      follows = (
        c.in-End.ensures.tells,
        inr (record { begun = refl; done = refl; none = λ t. (given t).0; back = c.in-End.ensures.back; out = λ t. (given t).2; ends = c.in-End.ensures.ends }),
      );
      length = refl;
    }
